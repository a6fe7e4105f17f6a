use Rattle.write_charges.proofs.{Cited.tests, Entry.unit_is, unit_fine.Statement.statement}
use Rattle.write_charges.proofs.unit_fine.Tie as tie

pub unit_fine_spec : {M : Type 1} → statement M
unit_fine_spec = tie.close (tie.spec (λ c. search (tests, unit_is)) (λ c. search (tests, unit_is)) (λ c. search (tests, unit_is)) (λ c. search (tests, unit_is)))
