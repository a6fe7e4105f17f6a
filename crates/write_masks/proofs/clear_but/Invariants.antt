use Rattle.std.proofs.Common.{◌≡◌, take, eqb}
use Rattle.std.specs.List.{list_all}
use Rattle.write_masks.specs.inner.Masks.{masked}
use Rattle.write_masks.proofs.clear_but.Given as goal

abbrev pub invariant-loop-i : goal.invariant-loop-i
invariant-loop-i l = l.clear ≡ list_all (eqb 0) (take l.i (masked l.used l.figure))
