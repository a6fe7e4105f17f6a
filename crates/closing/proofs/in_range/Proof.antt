use Rattle.prelude.proofs.Prelude.{refl, sym, ◌∙◌, and-false, arith, eq-eqb, ne_eqb}
use Rattle.closing.specs.Range.{in_range}
use Rattle.closing.proofs.{Small.operation_range, in_range.Statement.statement}
use Rattle.closing.proofs.in_range.Tie as tie

argument-fine-requires : tie.Need-argument_fine-requires
argument-fine-requires c κs =
    let a = c.before.before.before.before.args in
    rw c.operation_of.ensures (operation_range a.service a.c.figure.kind)

returns : tie.Need-returns-then-kind-ne-NONE
unfolding in_range
returns c =
    let e = c.before.before in
    let i = e.before in
    simp (sym i.before.is_closing.ensures ∙ i.if-is_closing.true, ne_eqb _ _ e.if-kind-ne-NONE.true, ← c.before.operation_of.ensures) c.argument_fine.ensures

pub in_range_spec : {M : Type 1} → statement M
unfolding in_range
in_range_spec =
    tie.close
    (tie.spec (omega arith) (omega arith) argument-fine-requires returns (λ c. simp (eq-eqb _ _ c.if-kind-ne-NONE.false, and-false))
    (λ c. rw (← c.before.is_closing.ensures, c.if-is_closing.false) refl))
