use Rattle.types.specs.Entries.{unit, unit_at}
use Rattle.write_tests.specs.inner.Fine.{laid}
use Rattle.write_rates.proofs.Tables.{Putting}
use Rattle.write_charges.proofs.put_units.Given as goal

abbrev pub invariant-loop-i : goal.invariant-loop-i
invariant-loop-i l = Putting unit (unit_at (laid l.numbers l.rows)) l.n l.initial.buf l.buf l.at l.next l.i
