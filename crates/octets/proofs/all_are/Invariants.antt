use Rattle.std.proofs.Common.{◌≡◌, take}
use Rattle.std.specs.List.{list_all}
use Rattle.octets.proofs.all_are.Given as goal

abbrev pub invariant-loop-y : goal.invariant-loop-y
invariant-loop-y g l = l.same ≡ list_all (g.T.PartialEq.eq l.x) (take l.y-index l.s)
