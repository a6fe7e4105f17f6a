use Rattle.coding.proofs.Small.{small_length}
use Rattle.write_rate.specs.inner.Prices.{term_octets}
use Rattle.write_rate.proofs.{Cited.{arith, eq-eqb, ne_eqb, rules}, Octets.{rate_parts, terms_length}, terms_size.Statement.statement}
use Rattle.write_rate.proofs.terms_size.Tie as tie

returns-2 : tie.Need-returns-then-r-eq-VOLUME
unfolding term_octets
returns-2 c =
    let c3 = c.before.before.before in
    let r = c3.before.args.r in
    let v = rate_parts r c3.before.requires in
    rw (ne_eqb r.kind 2 (λ z. omega arith), eq-eqb r.kind 3 (omega arith)) (omega (arith, small_length 0x83 r.detail (omega arith)))

returns-3 : tie.Need-returns
returns-3 c =
    let s = c.before.before.before.before.before.before in
    let n = c.before.scaled_size.ensures in
    omega (arith, c.step_size.ensures, n.0 0xa4, n.1, terms_length s.args.r (λ z. omega arith) (λ z. omega arith) (rate_parts s.args.r s.requires).detail)

pub terms_size_spec : {M : Type 1} → statement M
unfolding term_octets
terms_size_spec =
    tie.close
    (tie.spec (λ c. rw (eq-eqb c.before.before.args.r.kind 2 (omega arith)) (omega arith)) returns-2
    (λ c κs. let c3 = c.before.before.before in (rate_parts _ c3.before.requires).scale) (λ c. search rules) (λ c κs. search rules) (λ c. search rules)
    returns-3)
