-- The entries passed have no number but zero.
use Rattle.std.proofs.Common.{◌≡◌, true}
use Rattle.types.specs.Entries.{unit_at}
use Rattle.octets.specs.Each.{each}
use Rattle.fault_rules.specs.Figures.{nothing_by}
use Rattle.fault_rules.proofs.zero_units.Given as goal

abbrev pub invariant-loop-i : goal.invariant-loop-i
invariant-loop-i l = each l.i (λ k. nothing_by (unit_at l.e k).known (unit_at l.e k).number) ≡ true
