use Rattle.write_rate.proofs.{Cited.{arith, rules}, Octets.{rate_parts, put_rate_1, put_rate_2, put_rate_3, rate_parts_3}, Three.wrote_3, put_rate.Statement.statement}
use Rattle.write_rate.proofs.put_rate.Tie as tie

pub put_rate_spec : {M : Type 1} → statement M
put_rate_spec =
    tie.close
    (tie.spec (λ c κs. search rules) (λ c. search rules) (λ c κs. (omega (arith, c.before.price_size-n.ensures), search put_rate_1))
    (λ c κs. let c3 = c.before.before.before in let c6 = c3.before.before.before in let v = rate_parts _ c6.before.requires.0 in (omega arith, search put_rate_2))
    (λ c κs. search put_rate_3) (λ c. search rules) (λ c. search (wrote_3, rate_parts_3)))
