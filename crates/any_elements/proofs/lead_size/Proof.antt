use Rattle.prelude.proofs.Prelude.{arith}
use Rattle.any_elements.proofs.{Sizes.lead_2, Sizes.lead_3, Sizes.lead_4, lead_size.Statement.statement}
use Rattle.any_elements.proofs.lead_size.Tie as tie

pub lead_size_spec : {M : Type 1} → statement M
lead_size_spec =
    tie.close
    (tie.spec (λ c. (lead_2 _ c.if-n-lt128.true, omega arith)) (λ c. (lead_3 _ (omega arith) (omega arith), omega arith))
    (λ c. (lead_4 _ (omega arith) (omega arith), omega arith)))
