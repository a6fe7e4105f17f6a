use Rattle.prelude.proofs.Prelude.{arith, sym, ◌∙◌, true≢false, lt-leb, eq-eqb}
use Rattle.element_write.proofs.{Left.held_none, Left.held_over, Left.held_by, is_held.Statement.statement}
use Rattle.element_write.proofs.is_held.Tie as tie

returns : tie.Need-returns-then-octets-le254
returns c =
    let e = c.before in
    (c.is_tiled.ensures ∙ held_by _ e.before.if-octets-ne0.true e.if-octets-le254.true, λ t. e.if-octets-le254.true)

pub is_held_spec : {M : Type 1} → statement M
is_held_spec =
    tie.close
    (tie.spec (omega arith) returns
    (λ c. rw (lt-leb _ _ c.if-octets-le254.false) (held_over _ c.before.if-octets-ne0.true c.if-octets-le254.false, λ e. absurd (true≢false (sym e))))
    (λ c. rw (eq-eqb _ _ c.if-octets-ne0.false) (held_none _ c.if-octets-ne0.false, λ e. absurd (true≢false (sym e)))))
