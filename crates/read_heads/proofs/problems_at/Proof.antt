use Rattle.read_heads.specs.inner.Heads.{problems_in}
use Rattle.read_heads.proofs.{Cited.{arith, reading}, problems_at.Statement.statement}
use Rattle.read_heads.proofs.problems_at.Tie as tie

pub problems_at_spec : {M : Type 1} → statement M
unfolding problems_in
problems_at_spec =
    tie.close
    (tie.spec (omega arith) (omega arith) (λ c. search reading) (omega arith) (omega arith) (λ c. search reading) (omega arith) (omega arith) (λ c. search reading)
    (omega arith) (λ c. search reading))
