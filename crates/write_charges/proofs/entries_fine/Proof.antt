use Rattle.write_tests.specs.inner.Fine.{entries_fine}
use Rattle.write_charges.proofs.{Cited.{rules, tests}, entries_fine.Statement.statement}
use Rattle.write_charges.proofs.entries_fine.Tie as tie

pub entries_fine_spec : {M : Type 1} → statement M
unfolding entries_fine
entries_fine_spec = tie.close
    (tie.spec (λ c κs. search rules) (λ c. search tests) (λ c κs. search rules) (λ c. search tests) (λ c κs. search rules) (λ c. search tests) (λ c. search tests))
