use Rattle.coding.proofs.Tests.{tests}
use Rattle.closing.proofs.operation_of.Statement.{statement}
use Rattle.closing.proofs.operation_of.Tie as tie

pub operation_of_spec : {M : Type 1} → statement M
operation_of_spec = tie.close (tie.spec (λ c. search tests) (λ c. search tests) (λ c. search tests) (λ c. search tests))
