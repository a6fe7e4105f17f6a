-- By the kind.
use Rattle.prelude.proofs.Prelude.{rules, eq-eqb, ne_eqb}
use Rattle.trunk_read_extensions.proofs.inside_at.Statement.{statement}
use Rattle.trunk_read_extensions.proofs.inside_at.Tie as tie

pub inside_at_spec : {M : Type 1} → statement M
inside_at_spec =
    tie.close
    (tie.spec (λ c κs. search rules) (λ c. rw (eq-eqb _ _ c.before.if-kind-eq-LIST.true) c.list_at.ensures) (λ c κs. search rules)
    (λ c. rw (ne_eqb _ _ c.before.if-kind-eq-LIST.false) c.one_at.ensures))
