-- Each return by the answers that led to it.
use Rattle.prelude.proofs.Prelude.{arith}
use Rattle.coding.proofs.Reading.{gives, picks, skips, stay, step}
use Rattle.read_rate.specs.inner.Readers.{step_time}
use Rattle.read_rate.proofs.step_at.Statement.{statement}
use Rattle.read_rate.proofs.step_at.Tie as tie

pub step_at_spec : {M : Type 1} → statement M
unfolding step_time
step_at_spec = tie.close (tie.spec (omega arith) (omega arith) (λ c. search (picks, stay)) (λ c. search (picks, step, gives)) (λ c. search (skips, gives)))
