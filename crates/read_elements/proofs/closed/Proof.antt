use Rattle.prelude.proofs.Prelude.{arith, ◌∙◌, eq-eqb, ne_eqb}
use Rattle.read_elements.specs.inner.Closing.{closed_by}
use Rattle.read_elements.proofs.closed.Statement.{statement}
use Rattle.read_elements.proofs.closed.Tie as tie

pub closed_spec : {M : Type 1} → statement M
unfolding closed_by
closed_spec =
    tie.close
    (tie.spec (λ c κs. tt) (λ c. c.halted.ensures ∙ simp (ne_eqb _ _ c.before.if-contents-ne0.true)) (λ c κs. tt)
    (λ c. let t = c.before in c.halted-then-contents-stop.ensures ∙ simp (eq-eqb _ _ t.before.before.if-contents-ne0.false, ne_eqb _ _ t.if-contents-stop.true)) (λ c κs. tt)
    (λ c. let t = c.before in c.reached.ensures ∙ simp (eq-eqb _ _ t.before.before.if-contents-ne0.false, eq-eqb _ _ t.if-contents-stop.false)))
