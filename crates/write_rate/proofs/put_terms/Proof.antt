use Rattle.write_rate.specs.inner.Prices.{term_octets}
use Rattle.write_rate.proofs.{Cited.{arith, rules, tests}, Octets.{rate_parts, put_terms_1, put_terms_2, put_terms_3, terms_parts}}
use Rattle.write_rate.proofs.{Three.{named, wrote_3}, put_terms.Statement.statement}
use Rattle.write_rate.proofs.put_terms.Tie as tie

pub put_terms_spec : {M : Type 1} → statement M
unfolding term_octets
put_terms_spec =
    tie.close
    (tie.spec (λ c. search (named, tests))
    (λ c κs. let c3 = c.before.before.before in let v = rate_parts _ c3.before.before.before.requires.0 in (omega arith, search (named, tests)))
    (λ c. search rules) (λ c. search (named, tests))
    (λ c κs. let c3 = c.before.before.before in let v = rate_parts _ c3.before.before.before.requires.0 in (omega arith, search put_terms_1))
    (λ c κs. let c3 = c.before.before.before in let c6 = c3.before.before.before in let c9 = c6.before.before.before in
    ((rate_parts _ c9.before.requires.0).scale, search put_terms_2))
    (λ c κs. search put_terms_3) (λ c. search rules) (λ c. search (wrote_3, terms_parts)))
