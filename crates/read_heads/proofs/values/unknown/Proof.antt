use Rattle.read_heads.proofs.{Cited.tests, values.unknown.Statement.statement}
use Rattle.read_heads.proofs.values.unknown.Tie as tie

pub unknown_spec : {M : Type 1} → statement M
unknown_spec = tie.close (tie.spec (λ c. search tests) (λ c. search tests))
