use Rattle.lines.proofs.Streams.{close_none, close_told, close_begun, begun_whole}
use Rattle.lines.proofs.close.Goals as goal

pub returns-then-line-eq-NEW-clause-whole : goal.returns-then-line-eq-NEW-clause-whole
returns-then-line-eq-NEW-clause-whole g c e = close_none _ _ _ c.if-line-eq-NEW.true

pub returns-then-line-eq-NEW-clause-begun : goal.returns-then-line-eq-NEW-clause-begun
returns-then-line-eq-NEW-clause-begun g c = begun_whole (close_none _ _ _ c.if-line-eq-NEW.true)

pub returns-clause-whole : goal.returns-clause-whole
returns-clause-whole g c e = close_told c.if-line-eq-NEW.false (c.chunk.ensures.told e)

pub returns-clause-begun : goal.returns-clause-begun
returns-clause-begun g c = close_begun _ _ c.if-line-eq-NEW.false c.chunk.ensures.begun
