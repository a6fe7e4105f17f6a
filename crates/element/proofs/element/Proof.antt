use Rattle.prelude.proofs.Prelude.{arith}
use Rattle.element.specs.Element.{element_of}
use Rattle.element.proofs.element.Statement.{statement}
use Rattle.element.proofs.element.Tie as tie

pub element_spec : {M : Type 1} → statement M
element_spec =
    tie.close
    (tie.spec (omega arith) (λ c κs. c.before.is_led.ensures.1 c.if-is_led.true)
    (λ c. unfold element_of in (rw (← c.before.before.is_led.ensures.0, c.before.if-is_led.true) c.starts_from.ensures.0, c.starts_from.ensures.1))
    (omega arith)
    (λ c. unfold element_of in (rw (← c.before.before.is_led.ensures.0, c.before.if-is_led.false) c.refused.ensures, simp c.refused.ensures (omega arith))))
