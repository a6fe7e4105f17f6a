use Rattle.prelude.proofs.Prelude.{arith}
use Rattle.read_elements.proofs.{Patterns.numbers, natural_in.Statement.statement}
use Rattle.read_elements.proofs.natural_in.Tie as tie

pub natural_in_spec : {M : Type 1} → statement M
natural_in_spec =
    tie.close
    (tie.spec (omega arith) (λ c. (search numbers, omega arith)) (omega arith) (λ c. (search numbers, omega arith)) (omega arith)
    (λ c. (search numbers, omega arith)) (λ c. (search numbers, omega arith)) (λ c. (search numbers, omega arith)))
