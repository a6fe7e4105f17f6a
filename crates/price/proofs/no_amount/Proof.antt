use Rattle.prelude.proofs.Prelude.{refl, of_bits}
use Rattle.price.proofs.no_amount.Statement.{statement}
use Rattle.price.proofs.no_amount.Tie as tie

pub no_amount_spec : {M : Type 1} → statement M
unfolding of_bits
no_amount_spec = tie.close (tie.spec (λ c. refl))
