use Rattle.write_rate.proofs.Three.{named}
use Rattle.write_charges.specs.inner.Octets.{type_octets}
use Rattle.write_charges.proofs.{Cited.{rules, tests}, put_type.Statement.statement}
use Rattle.write_charges.proofs.put_type.Tie as tie

pub put_type_spec : {M : Type 1} → statement M
unfolding type_octets
put_type_spec = tie.close (tie.spec (λ c. search (named, tests)) (λ c κs. search (named, tests)) (λ c. search rules) (λ c. search (named, tests)))
