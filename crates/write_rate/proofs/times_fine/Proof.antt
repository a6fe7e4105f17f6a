use Rattle.write_tests.proofs.Truth.{told}
use Rattle.write_rate.specs.inner.Prices.{times_fine}
use Rattle.write_rate.proofs.{Cited.{rules, tests, zero_first}, times_fine.Statement.statement}
use Rattle.write_rate.proofs.times_fine.Tie as tie

pub times_fine_spec : {M : Type 1} → statement M
unfolding times_fine
times_fine_spec = tie.close
    (tie.spec (λ c κs. search rules) (λ c κs. search rules) (λ c. search (tests, told, c.before.before.scaled_fine.ensures))
    (λ c. search (tests, told, c.before.scaled_fine.ensures)) (λ c κs. search rules) (λ c. search tests) (λ c. search (tests, zero_first))
    (λ c. search (tests, zero_first)))
