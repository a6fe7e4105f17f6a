-- By whether it has a fault.
use Rattle.prelude.proofs.Prelude.{rules, eq-eqb, ne_eqb}
use Rattle.any_elements.proofs.span_of.Statement.{statement}
use Rattle.any_elements.proofs.span_of.Tie as tie

pub span_of_spec : {M : Type 1} → statement M
span_of_spec =
    tie.close
    (tie.spec (λ c κs. search rules) (λ c. search rules) (λ c. search rules) (λ c. search rules)
    (λ c. rw (ne_eqb _ 0 c.before.before.if-o-ne0.true, c.before.wide.ensures.0))
    (λ c. search rules) (λ c. search rules) (λ c. search rules) (λ c. search rules) (λ c. rw (eq-eqb _ 0 c.before.before.before.if-o-ne0.false)))
