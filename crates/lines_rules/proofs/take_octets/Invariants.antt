-- k octets with their spaces are taken. The measure is what may still come.
use Rattle.std.proofs.Common.{◌≤◌, ◌+◌, ◌*◌, ◌-◌, ◌≡◌}
use Rattle.lines_rules.proofs.Steps.{Taken}
use Rattle.lines_rules.proofs.take_octets.Given as goal

abbrev pub invariant-loop-k : goal.invariant-loop-k
invariant-loop-k l = (l.k ≤ l.most) × (l.at ≡ l.from + 3 * l.k) × Taken l.s l.from l.at l.k l.l l.fn.octets l.octets

abbrev pub decreases-loop-k : goal.decreases-loop-k
decreases-loop-k l = l.most - l.k
