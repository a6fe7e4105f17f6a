use Rattle.write_rate.proofs.{Cited.{tests, zero_first}, no_step.Statement.statement}
use Rattle.write_rate.proofs.no_step.Tie as tie

pub no_step_spec : {M : Type 1} → statement M
no_step_spec = tie.close (tie.spec (λ c. search (tests, zero_first)) (λ c. search (tests, zero_first)) (λ c. search (tests, zero_first)))
