use Rattle.write_rate.proofs.{Cited.{rules, tests}, step_fine.Statement.statement}
use Rattle.write_rate.proofs.step_fine.Tie as tie

pub step_fine_spec : {M : Type 1} → statement M
step_fine_spec = tie.close (tie.spec (λ c κs. search rules) (λ c. search (tests, c.scaled_fine.ensures)) (λ c κs. search rules) (λ c. search tests))
