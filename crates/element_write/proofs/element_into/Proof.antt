use Rattle.prelude.proofs.Prelude.{rules}
use Rattle.element_write.specs.Round.{element_into}
use Rattle.element_write.proofs.element_into.Statement.{statement}
use Rattle.element_write.proofs.element_into.Tie as tie

pub element_into_spec : {M : Type 1} → statement M
element_into_spec = tie.close (tie.spec (search rules) (search rules) (λ c. unfold element_into in c.before.before.element_as.ensures))
