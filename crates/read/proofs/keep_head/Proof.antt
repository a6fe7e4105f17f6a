use Rattle.prelude.proofs.Prelude.{arith}
use Rattle.types.proofs.Stored.{halves}
use Rattle.read.proofs.{keep_head.Statement.statement, keep_head.Tie.close, keep_head.Tie.spec}

pub keep_head_spec : {M : Type 1} → statement M
keep_head_spec =
    close (spec (omega arith) (omega arith) (omega arith) (omega arith) (omega arith) (omega arith) (omega arith) (omega arith) (omega arith) (omega arith)
    (λ c. simp (c.before.before.requires, halves)))
