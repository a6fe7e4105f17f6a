use Rattle.trunk_write_frames.proofs.Sizes.{reject_null, reject_named}
use Rattle.trunk_write_frames.proofs.reject_size.Goals as goal

pub returns-then-front-eq1-clause-value : goal.returns-then-front-eq1-clause-value
returns-then-front-eq1-clause-value c = reject_null c.args.front.now c.if-front-eq1.true c.requires

pub returns-clause-value : goal.returns-clause-value
returns-clause-value c = reject_named c.args.front.now c.id_of.ensures c.id_width.ensures.value c.if-front-eq1.false c.requires
