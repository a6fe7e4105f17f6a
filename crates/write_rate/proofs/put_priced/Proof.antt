use Rattle.prelude.proofs.Prelude.{true, ap, ◌∙◌, arith, rules}
use Rattle.types.specs.Charges.{money}
use Rattle.write_rate.proofs.{Octets.rate_parts, Octets.put_priced_1, Octets.put_priced_2, Octets.put_priced_3, Octets.price_parts, Three.wrote_3, put_priced.Statement.statement}
use Rattle.write_rate.proofs.put_priced.Tie as tie

pub put_priced_spec : {M : Type 1} → statement M
put_priced_spec =
    tie.close
    (tie.spec (λ c κs. search rules) (λ c κs. search rules) (λ c. search rules)
    (λ c κs. (omega (arith, c.before.before.priced_size-n.ensures), search put_priced_1))
    (λ c κs. let c3 = c.before.before.before in let c6 = c3.before.before.before in let s = c6.before.before.before in
    (ap (money true).valid c6.before.money_of-m.ensures ∙ (rate_parts _ s.requires.0).amount s.requires.1, search put_priced_2)) (λ c κs. search put_priced_3)
    (λ c. search rules) (λ c. search (wrote_3, price_parts)))
