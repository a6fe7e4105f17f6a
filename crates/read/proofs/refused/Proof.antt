-- Number and offset from the fault and its place.
use Rattle.prelude.proofs.Prelude.{arith}
use Rattle.read.proofs.refused.{Statement.statement, Tie.close, Tie.spec}

pub refused_spec : {M : Type 1} → statement M
refused_spec = close (spec (omega arith) (omega arith) (omega arith) (λ c. rw (c.offset_of-offset.ensures, c.before.number_of-number.ensures)))
