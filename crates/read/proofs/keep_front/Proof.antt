use Rattle.prelude.proofs.Prelude.{arith}
use Rattle.types.proofs.Stored.{halves}
use Rattle.read.proofs.{keep_front.Statement.statement, keep_front.Tie.close, keep_front.Tie.spec}

pub keep_front_spec : {M : Type 1} → statement M
keep_front_spec =
    close (spec (omega arith) (omega arith) (omega arith) (omega arith) (omega arith) (omega arith) (omega arith) (λ c. simp (c.requires, halves)))
