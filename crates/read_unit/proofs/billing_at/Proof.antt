use Rattle.prelude.proofs.Prelude.{rules, arith}
use Rattle.read_lengths.proofs.Answers.{when}
use Rattle.read_unit.specs.inner.Readers.{billing_by}
use Rattle.read_unit.proofs.billing_at.Statement.{statement}
use Rattle.read_unit.proofs.billing_at.Tie as tie

pub billing_at_spec : {M : Type 1} → statement M
unfolding billing_by
billing_at_spec = tie.close (tie.spec (search rules) (search rules) (λ c. (search when, omega arith)) (search rules) (λ c. (search when, omega arith)))
