use Rattle.prelude.proofs.Prelude.{arith, ◌<◌, refl, sym, ◌∙◌, length, true≢false, lt-ltb, lt-leb, eq-eqb, ne_eqb}
use Rattle.element.specs.Element.{led}
use Rattle.element.proofs.{Tiling.third_decides, is_led.Statement.statement}
use Rattle.element.proofs.is_led.Tie as tie

long : (c : tie.Then-octets-ge4) → 3 < length c.before.before.args.octets.now
long c = omega arith

returns : tie.Need-returns-then-wide-octets
returns c =
    let t = c.before.before in
    let w = t.before in
    let e = w.before.before in
    let l = long e.before.before in
    (c.is_profile.ensures ∙ third_decides _ l e.if-octets-eq28.true (sym w.wide.ensures.0 ∙ t.if-wide-octets.true), λ e. (l, omega (arith, w.wide.ensures.1)))

pub is_led_spec : {M : Type 1} → statement M
unfolding led
is_led_spec =
    tie.close
    (tie.spec (omega arith) (omega arith) (omega arith) (omega arith) (omega arith) (omega arith) returns
    (λ c. let w = c.before in let e = w.before.before in
    rw (lt-ltb 3 _ (long e.before.before), eq-eqb _ _ e.if-octets-eq28.true, ← w.wide.ensures.0, ne_eqb _ _ c.if-wide-octets.false) (refl, λ e. absurd (true≢false (sym e))))
    (λ c. rw (lt-ltb 3 _ (long c.before.before), ne_eqb _ _ c.if-octets-eq28.false) (refl, λ e. absurd (true≢false (sym e))))
    (λ c. rw (lt-leb _ _ c.if-octets-ge4.false) (refl, λ e. absurd (true≢false (sym e)))))
