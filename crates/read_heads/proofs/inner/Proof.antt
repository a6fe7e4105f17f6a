use Rattle.prelude.proofs.Prelude.{arith, lt-ltb, le-ltb}
use Rattle.read_heads.proofs.inner.Statement.{statement}
use Rattle.read_heads.proofs.inner.Tie as tie

pub inner_spec : {M : Type 1} → statement M
inner_spec = tie.close (tie.spec (omega arith) (λ c. simp (lt-ltb _ _ c.if-fault-lt-BASE.true)) (λ c. simp (le-ltb _ _ c.if-fault-lt-BASE.false)))
