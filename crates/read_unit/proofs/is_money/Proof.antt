use Rattle.prelude.proofs.Prelude.{eq-eqb, ne_eqb}
use Rattle.read_unit.proofs.is_money.Statement.{statement}
use Rattle.read_unit.proofs.is_money.Tie as tie

pub is_money_spec : {M : Type 1} → statement M
is_money_spec = tie.close (tie.spec (λ c. simp (eq-eqb _ _ c.if-operation-eq-E_CURRENCY.true)) (λ c. simp (ne_eqb _ _ c.if-operation-eq-E_CURRENCY.false)))
