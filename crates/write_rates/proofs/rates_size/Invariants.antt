use Rattle.std.proofs.Common.{true}
use Rattle.types.specs.Rates.{rate, rate_at}
use Rattle.write_tests.specs.inner.Fine.{laid}
use Rattle.write_rates.proofs.Tables.{Sizing}
use Rattle.write_rates.proofs.rates_size.Given as goal

abbrev pub invariant-loop-i : goal.invariant-loop-i
invariant-loop-i l = Sizing (rate true) 55 (rate_at (laid l.numbers l.rows)) l.n l.size l.i
