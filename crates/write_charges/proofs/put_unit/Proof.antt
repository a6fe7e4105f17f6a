use Rattle.write_rate.proofs.Three.{wrote_3}
use Rattle.write_charges.proofs.{Cited.{arith, rules}, Entry.{unit_type, put_unit_1, put_unit_2, put_unit_3, unit_parts}, put_unit.Statement.statement}
use Rattle.write_charges.proofs.put_unit.Tie as tie

pub put_unit_spec : {M : Type 1} → statement M
put_unit_spec =
    tie.close
    (tie.spec (λ c κs. search rules) (λ c κs. search unit_type) (λ c. search rules)
    (λ c κs. (omega (arith, c.before.before.number_size.ensures, c.before.type_size.ensures), search put_unit_1)) (λ c κs. search put_unit_2)
    (λ c κs. search (unit_type, put_unit_3)) (λ c. search rules) (λ c. search (wrote_3, unit_parts)))
