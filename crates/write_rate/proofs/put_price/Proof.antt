use Rattle.write_rate.specs.inner.Prices.{price_octets}
use Rattle.write_rate.proofs.{Cited.{arith, rules, tests}, Three.named, Octets.rate_parts, put_price.Statement.statement}
use Rattle.write_rate.proofs.put_price.Tie as tie

pub put_price_spec : {M : Type 1} → statement M
unfolding price_octets
put_price_spec =
    tie.close
    (tie.spec (λ c κs. search rules) (λ c. search rules) (λ c. search rules)
    (λ c κs. let c3 = c.before.before.before in let v = rate_parts _ c3.before.before.before.requires.0 in (omega arith, search (named, tests)))
    (λ c. search rules) (λ c. search (named, tests))
    (λ c κs. search (named, tests)) (λ c. search rules) (λ c. search (named, tests)) (λ c κs. search (named, tests)) (λ c. search rules)
    (λ c. search (named, tests)) (λ c κs. search (named, tests)) (λ c. search rules) (λ c. search (named, tests)))
