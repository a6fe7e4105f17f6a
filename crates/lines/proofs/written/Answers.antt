use Rattle.std.proofs.Common.{arith}
use Rattle.lines.proofs.Streams.{written_more, written_none, written_kept}
use Rattle.lines.proofs.written.Goals as goal

pub loop-at-preserved : goal.loop-at-preserved
loop-at-preserved g c =
    let i = c.loop-at.invariant in
    (omega (arith, c.in-Ok.ensures.bound), i.1, written_more _ _ _ _ _ _ _ i.0 (omega (arith, c.in-Ok.ensures.bound)) i.2 c.in-Ok.ensures.bytes)

pub returns-in-Ok-eq0-clause-begun : goal.returns-in-Ok-eq0-clause-begun
returns-in-Ok-eq0-clause-begun g c = let i = c.loop-at.invariant in written_none _ _ _ _ _ _ _ _ i.0 c.in-Ok-eq0.field-0-test i.2 c.in-Ok-eq0.ensures.bytes

pub returns-in-Err-clause-begun : goal.returns-in-Err-clause-begun
returns-in-Err-clause-begun g c = let i = c.loop-at.invariant in written_kept _ _ _ _ _ _ i.0 i.2 c.in-Err.ensures.bytes
