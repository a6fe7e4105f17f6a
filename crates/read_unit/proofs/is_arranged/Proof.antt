use Rattle.prelude.proofs.Prelude.{rules, eq-eqb, ne_eqb}
use Rattle.read_unit.proofs.is_arranged.Statement.{statement}
use Rattle.read_unit.proofs.is_arranged.Tie as tie

pub is_arranged_spec : {M : Type 1} → statement M
is_arranged_spec =
    tie.close
    (tie.spec (search rules) (λ c. simp (eq-eqb _ _ c.if-operation-eq-S_SPECIAL.true))
    (λ c. simp (ne_eqb _ _ c.before.before.if-operation-eq-S_SPECIAL.false, eq-eqb _ _ c.before.if-operation-eq-CHARGING_REQUEST.true) c.is_tag.ensures)
    (λ c. simp (ne_eqb _ _ c.before.if-operation-eq-S_SPECIAL.false, ne_eqb _ _ c.if-operation-eq-CHARGING_REQUEST.false)))
