use Rattle.prelude.proofs.Prelude.{arith}
use Rattle.coding.{specs.Codec.maybe, specs.Codec.over, specs.Reader.optional, specs.Leaves.given, proofs.Reading.reading}
use Rattle.read_elements.proofs.chosen_at.Statement.{statement}
use Rattle.read_elements.proofs.chosen_at.Tie as tie

pub chosen_at_spec : {M : Type 1} → statement M
unfolding given maybe over optional
chosen_at_spec =
    tie.close
    (tie.spec (omega arith) (omega arith) (λ c κs. tt) (λ c. rw c.no_chosen.ensures (search reading, omega arith)) (λ c κs. tt)
    (λ c. rw c.chosen.ensures (search reading, omega arith)) (λ c κs. tt) (λ c. rw c.chosen-2.ensures (search reading, omega arith)))
