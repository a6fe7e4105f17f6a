use Rattle.coding.proofs.Tests.{tests}
use Rattle.profile_reply.proofs.called_for.Statement.{statement}
use Rattle.profile_reply.proofs.called_for.Tie as tie

pub called_for_spec : {M : Type 1} → statement M
called_for_spec = tie.close (tie.spec (λ c. search tests) (λ c. search tests) (λ c. search tests))
