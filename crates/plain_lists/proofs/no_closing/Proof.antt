use Rattle.prelude.proofs.Prelude.{refl, arith}
use Rattle.plain_lists.proofs.no_closing.Statement.{statement}
use Rattle.plain_lists.proofs.no_closing.Tie as tie

pub no_closing_spec : {M : Type 1} → statement M
no_closing_spec = tie.close (tie.spec (omega arith) (λ c. rw c.no_charge.ensures refl))
