use Rattle.prelude.proofs.{Prelude.{refl, arith, eqb, eq-eqb, ne_eqb, lt-leb, rules}, Ways.by_cases}
use Rattle.coding.proofs.Small.{small_length, null_length}
use Rattle.write_rate.specs.inner.Prices.{price_octets}
use Rattle.write_rate.proofs.{Octets.rate_parts, Octets.price_length, price_size.Statement.statement}
use Rattle.write_rate.proofs.price_size.Tie as tie

returns : tie.Need-returns-then-r-le-VOLUME
returns c =
    let n = c.priced_size in
    omega (arith, n.ensures, price_length c.before.before.before.args.r _ n.result (omega arith) refl n.ensures.0 (omega (arith, n.ensures)))

returns-2 : tie.Need-returns-then-r-eq-CODE
unfolding price_octets
returns-2 c =
    let c3 = c.before.before.before in
    let r = c3.before.args.r in
    let v = rate_parts r c3.before.requires in
    rw (lt-leb r.kind 3 (omega arith), eq-eqb r.kind 4 (omega arith)) (omega (arith, small_length 0x02 r.detail (omega arith)))

returns-3 : tie.Need-returns
unfolding price_octets
returns-3 c =
    let r = c.before.before.before.before.args.r in
    rw (lt-leb r.kind 3 (omega arith), ne_eqb r.kind 4 (λ z. omega arith))
    (by_cases (eqb r.kind 5) (λ q. rw q (omega (arith, null_length 0x84))) (λ q.
    by_cases (eqb r.kind 6) (λ p. rw (q, p) (omega (arith, null_length 0x85))) (λ p. rw (q, p) (omega (arith, null_length 0x86)))))

pub price_size_spec : {M : Type 1} → statement M
price_size_spec = tie.close (tie.spec (λ c κs. search rules) (λ c. search rules) returns returns-2 returns-3)
