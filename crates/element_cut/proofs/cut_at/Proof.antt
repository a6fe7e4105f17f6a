use Rattle.prelude.proofs.Prelude.{arith, ◌≡◌, refl, ap, ◌∙◌, length}
use Rattle.element.specs.{declared.Starts.Starts, Element.element_of, Cut.starts_of}
use Rattle.element_cut.specs.inner.Places.{after_in}
use Rattle.element_cut.proofs.cut_at.Statement.{statement}
use Rattle.element_cut.proofs.cut_at.Tie as tie

returns : tie.Need-returns-then-is_led
unfolding element_of
returns c =
    let l = c.before.before in
    let g = l.before.before.args in
    let t : c.cut_from.result.tiles ≡ element_of g.octets.now = rw (← l.is_led.ensures.0, c.before.if-is_led.true) c.cut_from.ensures.0 in
    (t, c.cut_from.ensures.1 ∙ ap (λ (x : Starts). after_in g.place (length g.octets.now) (starts_of x)) t)

returns-2 : tie.Need-returns
unfolding element_of after_in
returns-2 c =
    let l = c.before.before in
    (rw (← l.is_led.ensures.0, c.before.if-is_led.false, c.uncut.ensures) refl, rw (← l.is_led.ensures.0, c.before.if-is_led.false, c.uncut.ensures) refl)

pub cut_at_spec : {M : Type 1} → statement M
cut_at_spec = tie.close (tie.spec (omega arith) (λ c κs. c.before.is_led.ensures.1 c.if-is_led.true) returns (omega arith) returns-2)
