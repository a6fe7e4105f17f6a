use Rattle.prelude.proofs.Prelude.{arith}
use Rattle.read_heads.proofs.{Codes.{operation_below, operation_above, operation_known}, values.known_operation.Statement.statement}
use Rattle.read_heads.proofs.values.known_operation.Tie as tie

ruleset range = (operation_below, operation_above)

pub known_operation_spec : {M : Type 1} → statement M
known_operation_spec = tie.close (tie.spec (λ c. operation_known _ (omega arith) (omega arith)) (λ c. search range) (λ c. search range))
