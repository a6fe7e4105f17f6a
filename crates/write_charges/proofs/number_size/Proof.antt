use Rattle.coding.proofs.{Writing.width_range, Writing.number_length, Small.null_length}
use Rattle.write_charges.specs.inner.Octets.{number_octets}
use Rattle.write_charges.proofs.{Cited.{arith, eq-eqb, ne_eqb, rules}, number_size.Statement.statement}
use Rattle.write_charges.proofs.number_size.Tie as tie

pub number_size_spec : {M : Type 1} → statement M
unfolding number_octets
number_size_spec =
    tie.close
    (tie.spec (λ c κs. search rules) (λ c. omega (arith, width_range c.before.before.before.args.u.number, c.width_of.ensures))
    (λ c. let u = c.before.before.before.args.u in
    rw (eq-eqb u.known 1 (omega arith)) (omega (arith, width_range u.number, c.width_of.ensures, number_length 0x02 u.number)))
    (λ c. rw (ne_eqb c.before.before.args.u.known 1 (λ z. omega arith)) (omega (arith, null_length 0x05))))
