use Rattle.prelude.proofs.Prelude.{eq-eqb, ne_eqb}
use Rattle.read_unit.proofs.is_subtotal.Statement.{statement}
use Rattle.read_unit.proofs.is_subtotal.Tie as tie

pub is_subtotal_spec : {M : Type 1} → statement M
is_subtotal_spec = tie.close (tie.spec (λ c. simp (eq-eqb _ _ c.if-operation-eq-D_CURRENCY.true)) (λ c. simp (ne_eqb _ _ c.if-operation-eq-D_CURRENCY.false)))
