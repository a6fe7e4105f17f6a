-- Each return by the answers that led to it.
use Rattle.coding.{specs.Reader.primitive, proofs.Reading.reading}
use Rattle.read_association.proofs.{Cited.{arith, rules, refl, storing}, digits_at.Statement.statement}
use Rattle.read_association.proofs.digits_at.Tie as tie

pub digits_at_spec : {M : Type 1} → statement M
unfolding primitive
digits_at_spec =
    tie.close
    (tie.spec (omega arith) (omega arith) (λ c. (search (storing, reading), (refl, refl))) (λ c κs. search rules) (omega arith)
    (λ c. (search (storing, reading), search)) (omega arith) (λ c. (search (storing, reading), search)))
