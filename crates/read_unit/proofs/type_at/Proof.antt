use Rattle.prelude.proofs.Prelude.{rules, arith}
use Rattle.read_lengths.proofs.Answers.{when}
use Rattle.read_unit.specs.inner.Readers.{type_by}
use Rattle.read_unit.proofs.type_at.Statement.{statement}
use Rattle.read_unit.proofs.type_at.Tie as tie

pub type_at_spec : {M : Type 1} → statement M
unfolding type_by
type_at_spec = tie.close (tie.spec (search rules) (search rules) (λ c. (search when, omega arith)) (search rules)
    (λ c. rw c.number.ensures (search when, omega arith)))
