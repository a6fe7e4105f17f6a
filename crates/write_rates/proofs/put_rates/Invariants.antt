use Rattle.std.proofs.Common.{true}
use Rattle.types.specs.Rates.{rate, rate_at}
use Rattle.write_tests.specs.inner.Fine.{laid}
use Rattle.write_rates.proofs.Tables.{Putting}
use Rattle.write_rates.proofs.put_rates.Given as goal

abbrev pub invariant-loop-i : goal.invariant-loop-i
invariant-loop-i l = Putting (rate true) (rate_at (laid l.numbers l.rows)) l.n l.initial.buf l.buf l.at l.next l.i
