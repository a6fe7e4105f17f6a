use Rattle.types.specs.Entries.{unit, unit_at}
use Rattle.write_tests.specs.inner.Fine.{laid}
use Rattle.write_rates.proofs.Tables.{Passing}
use Rattle.write_charges.proofs.units_valid.Given as goal

abbrev pub invariant-loop-i : goal.invariant-loop-i
invariant-loop-i l = Passing unit.valid (unit_at (laid l.numbers l.rows)) l.n l.i
