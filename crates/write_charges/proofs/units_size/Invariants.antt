use Rattle.types.specs.Entries.{unit, unit_at}
use Rattle.write_tests.specs.inner.Fine.{laid}
use Rattle.write_rates.proofs.Tables.{Sizing}
use Rattle.write_charges.proofs.units_size.Given as goal

abbrev pub invariant-loop-i : goal.invariant-loop-i
invariant-loop-i l = Sizing unit 11 (unit_at (laid l.numbers l.rows)) l.n l.size l.i
