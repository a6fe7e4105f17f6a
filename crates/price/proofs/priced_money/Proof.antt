use Rattle.prelude.proofs.Prelude.{refl, ◌≤◌, arith}
use Rattle.price.specs.Price.{as_double}
use Rattle.price.proofs.{Exact.in_range_lem, Exact.one_division, priced_money.Statement.statement}
use Rattle.price.proofs.priced_money.Tie as tie

-- the thousandths are small enough to be exact
bounded : (c : tie.After-row_known-1) → c.before.thousandths-x.result ≤ 16777215000000
bounded c = c.before.thousandths-x.ensures.1 c.before.before.before.requires

returns : tie.Need-returns
unfolding as_double
returns c = rw (one_division c.before.thousandths-x.result (bounded c), c.before.thousandths-x.ensures.0) refl

pub priced_money_spec : {M : Type 1} → statement M
priced_money_spec = tie.close (tie.spec (omega arith) (λ c. in_range_lem _ (bounded c)) returns)
