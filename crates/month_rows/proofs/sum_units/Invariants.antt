-- What is left gives from here what the whole gives from the start.
use Rattle.std.proofs.Common.{◌-◌, ◌≡◌}
use Rattle.month_rows.specs.Sums.{sum_units, count_absent}
use Rattle.month_rows.proofs.sum_units.Given as goal

abbrev pub invariant-loop-i : goal.invariant-loop-i
invariant-loop-i l = (sum_units l.e l.i (l.n - l.i) l.sums ≡ sum_units l.e 0 l.n l.fn.units) × (count_absent l.e l.i (l.n - l.i) l.none ≡ count_absent l.e 0 l.n l.fn.absent)
