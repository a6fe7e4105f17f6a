use Rattle.prelude.proofs.Prelude.{refl, eq-eqb, ne_eqb}
use Rattle.element_cut.proofs.settled.Statement.{statement}
use Rattle.element_cut.proofs.settled.Tie as tie

pub settled_spec : {M : Type 1} → statement M
settled_spec = tie.close (tie.spec (λ c. rw (eq-eqb _ _ c.if-at-place.true) refl) (λ c. rw (ne_eqb _ _ c.if-at-place.false) refl))
