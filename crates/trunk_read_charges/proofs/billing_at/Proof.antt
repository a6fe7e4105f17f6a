use Rattle.prelude.proofs.Prelude.{arith}
use Rattle.trunk_read_charges.proofs.{Steps.{billed_one, billed_other}, billing_at.Statement.statement}
use Rattle.trunk_read_charges.proofs.billing_at.Tie as tie

pub billing_at_spec : {M : Type 1} → statement M
billing_at_spec =
    tie.close
    (tie.spec (omega arith) (λ c. (billed_other _ _ _ _ c.before.before.chosen_at-b.ensures.0 c.if-b-ne-REVERSE.true, omega arith))
    (omega arith) (λ c. let e = c.before in rw c.no_chosen.ensures (billed_one _ _ _ _ e.before.before.chosen_at-b.ensures.0 e.if-b-ne-REVERSE.false, omega arith)))
