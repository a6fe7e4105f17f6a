use Rattle.read_heads.specs.inner.Heads.{problem_in}
use Rattle.read_heads.proofs.{Cited.{arith, reading}, problem_at.Statement.statement}
use Rattle.read_heads.proofs.problem_at.Tie as tie

pub problem_at_spec : {M : Type 1} → statement M
unfolding problem_in
problem_at_spec = tie.close (tie.spec (omega arith) (λ c. search reading) (omega arith) (λ c. search reading))
