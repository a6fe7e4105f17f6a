use Rattle.prelude.proofs.Prelude.{arith}
use Rattle.read_elements.proofs.{Patterns.shortening, is_shortest.Statement.statement}
use Rattle.read_elements.proofs.is_shortest.Tie as tie

pub is_shortest_spec : {M : Type 1} → statement M
is_shortest_spec =
    tie.close
    (tie.spec (λ c. search shortening) (omega arith) (λ c. search shortening) (omega arith) (omega arith) (omega arith) (λ c. search shortening)
    (λ c. search shortening) (λ c. search shortening))
