use Rattle.prelude.proofs.Prelude.{arith, le-leb, lt-leb}
use Rattle.read.proofs.offset_of.{Statement.statement, Tie.close, Tie.spec}

pub offset_of_spec : {M : Type 1} → statement M
offset_of_spec = close (spec (λ c. simp (lt-leb 40 _ c.if-number-lt-MISSING.true)) (omega arith) (λ c. simp (le-leb _ _ c.if-number-lt-MISSING.false)))
