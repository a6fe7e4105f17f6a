-- Each return by the answers that led to it.
use Rattle.prelude.proofs.Prelude.{arith}
use Rattle.coding.{specs.Codec.sort, proofs.Reading.picks, proofs.Reading.skips}
use Rattle.read_rate.proofs.late_at.Statement.{statement}
use Rattle.read_rate.proofs.late_at.Tie as tie

pub late_at_spec : {M : Type 1} → statement M
unfolding sort
late_at_spec = tie.close (tie.spec (omega arith) (omega arith) (λ c. search (picks, skips)) (omega arith) (λ c. search (picks, skips)))
