use Rattle.prelude.proofs.Prelude.{rules, arith}
use Rattle.read_lengths.proofs.Answers.{when}
use Rattle.read_unit.specs.inner.Readers.{framed_by}
use Rattle.read_unit.proofs.frame_at.Statement.{statement}
use Rattle.read_unit.proofs.frame_at.Tie as tie

pub frame_at_spec : {M : Type 1} → statement M
unfolding framed_by
frame_at_spec = tie.close (tie.spec (search rules) (search rules) (λ c. (search when, omega arith)) (search rules)
    (λ c. rw c.found.ensures (search when, omega arith)))
