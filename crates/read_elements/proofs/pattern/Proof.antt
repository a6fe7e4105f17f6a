use Rattle.prelude.proofs.Prelude.{arith}
use Rattle.coding.proofs.Signed.{one_low, one_high}
use Rattle.read_elements.proofs.pattern.Statement.{statement}
use Rattle.read_elements.proofs.pattern.Tie as tie

pub pattern_spec : {M : Type 1} → statement M
pattern_spec = tie.close (tie.spec (λ c. (one_low _ c.if-x-lt128.true, omega arith)) (omega arith) (λ c. (one_high _ c.if-x-lt128.false (omega arith), omega arith)))
