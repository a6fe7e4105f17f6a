use Rattle.coding.proofs.Small.{small_length}
use Rattle.write_charges.specs.inner.Octets.{type_octets}
use Rattle.write_charges.proofs.{Cited.{arith, eq-eqb, ne_eqb}, type_size.Statement.statement}
use Rattle.write_charges.proofs.type_size.Tie as tie

pub type_size_spec : {M : Type 1} → statement M
unfolding type_octets
type_size_spec =
    tie.close
    (tie.spec (λ c. rw (eq-eqb c.before.before.args.u.kind 0 (omega arith)) (omega arith))
    (λ c. let u = c.before.before.args.u in rw (ne_eqb u.kind 0 (λ z. omega arith)) (omega (arith, small_length 0x02 u.kind (omega arith)))))
