use Rattle.write_charges.proofs.{Cited.{arith, rules}, Entry.{unit_type, unit_length}, unit_size.Statement.statement}
use Rattle.write_charges.proofs.unit_size.Tie as tie

pub unit_size_spec : {M : Type 1} → statement M
unit_size_spec =
    tie.close (tie.spec (λ c κs. search rules) (λ c. search rules) (λ c κs. search unit_type) (λ c. search rules)
    (λ c. let n = c.before.number_size.ensures in let t = c.type_size.ensures in
    omega (arith, n, t, unit_length c.before.before.args.u _ _ n.0 t.0 (omega (arith, n, t)))))
