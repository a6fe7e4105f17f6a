use Rattle.std.proofs.Common.{rules, arith}
use Rattle.write_masks.proofs.Masks.{clear_whole}
use Rattle.write_masks.proofs.clear_but.Goals as goal

pub returns : goal.returns
returns c = clear_whole _ _ c.loop-i.i _ (search rules) (search rules) (omega arith) c.loop-i.invariant
