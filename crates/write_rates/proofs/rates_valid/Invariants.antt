use Rattle.types.specs.Rates.{rate, rate_at}
use Rattle.write_tests.specs.inner.Fine.{laid}
use Rattle.write_rates.proofs.Tables.{Passing}
use Rattle.write_rates.proofs.rates_valid.Given as goal

abbrev pub invariant-loop-i : goal.invariant-loop-i
invariant-loop-i l = Passing (rate l.trunk).valid (rate_at (laid l.numbers l.rows)) l.n l.i
