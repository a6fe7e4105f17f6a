use Rattle.write_tests.proofs.Truth.{told}
use Rattle.write_rate.specs.inner.Prices.{detail_fine}
use Rattle.write_rate.proofs.{Cited.{rules, tests, zero_first}, detail_fine.Statement.statement}
use Rattle.write_rate.proofs.detail_fine.Tie as tie

pub detail_fine_spec : {M : Type 1} → statement M
unfolding detail_fine
detail_fine_spec = tie.close
    (tie.spec (λ c κs. search rules) (λ c. rw c.in-1.is) (λ c. rw c.in-3.is) (λ c. rw c.before.in-4.is (search tests))
    (λ c. rw c.before.in-4.is (search tests)) (λ c. search (tests, zero_first, told)) (λ c. search (tests, zero_first, told)) (λ c. search (tests, zero_first)))
