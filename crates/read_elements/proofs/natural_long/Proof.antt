use Rattle.prelude.proofs.Prelude.{arith}
use Rattle.coding.{specs.Codec.prim, specs.Leaves.number, specs.Reader.primitive, proofs.Reading.reading}
use Rattle.read_elements.proofs.natural_long.Statement.{statement}
use Rattle.read_elements.proofs.natural_long.Tie as tie

pub natural_long_spec : {M : Type 1} → statement M
unfolding prim number primitive
natural_long_spec =
    tie.close
    (tie.spec (omega arith) (λ c κs. tt) (λ c. rw c.no_number.ensures (search reading, omega arith)) (omega arith) (λ c κs. tt)
    (λ c. rw c.no_number-then-v-ne0.ensures (search reading, omega arith)) (λ c κs. tt) (λ c. rw c.number.ensures (search reading, omega arith)))
