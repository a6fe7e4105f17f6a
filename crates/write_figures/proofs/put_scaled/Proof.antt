use Rattle.coding.proofs.Writing.{width_range}
use Rattle.write_figures.proofs.{Cited.{arith, rules, wrote_three}, Sizes.{scaled_1, scaled_2, scaled_octets_lem, scaled_3}, put_scaled.Statement.statement}
use Rattle.write_figures.proofs.put_scaled.Tie as tie

pub put_scaled_spec : {M : Type 1} → statement M
put_scaled_spec =
    tie.close
    (tie.spec (omega arith) (λ c. omega (arith, width_range c.before.before.before.args.s.number))
    (λ c κs. (omega (arith, width_range c.before.before.before.args.s.number), search scaled_1)) (λ c κs. search scaled_2)
    (λ c κs. search (rules, scaled_3)) (omega arith) (λ c. search (wrote_three, scaled_octets_lem)))
