use Rattle.write_rate.proofs.Three.{named}
use Rattle.write_charges.specs.inner.Octets.{number_octets}
use Rattle.write_charges.proofs.{Cited.{rules, tests}, put_number.Statement.statement}
use Rattle.write_charges.proofs.put_number.Tie as tie

pub put_number_spec : {M : Type 1} → statement M
unfolding number_octets
put_number_spec =
    tie.close
    (tie.spec (λ c κs. search (named, tests)) (λ c. search rules) (λ c. search (named, tests)) (λ c κs. search (named, tests)) (λ c. search rules)
    (λ c. search (named, tests)))
