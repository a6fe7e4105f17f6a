use Rattle.coding.proofs.Tests.{tests}
use Rattle.closing.proofs.is_closing.Statement.{statement}
use Rattle.closing.proofs.is_closing.Tie as tie

pub is_closing_spec : {M : Type 1} → statement M
is_closing_spec = tie.close (tie.spec (λ c. search tests) (λ c. search tests))
