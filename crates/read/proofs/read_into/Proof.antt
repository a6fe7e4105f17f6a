-- The head, then what is left.
use Rattle.prelude.proofs.Prelude.{arith, rules, ap, ◌∙◌, sym, eqb, ne_eqb, le-leb, lt-leb}
use Rattle.coding.{specs.Reader.part, proofs.Basic.and_left, proofs.Basic.and_right}
use Rattle.types.specs.{Stored.figure_in, Frames.argument, Frames.answered}
use Rattle.read_heads.specs.inner.Heads.{rest_of}
use Rattle.read.specs.inner.Ways.{held}
use Rattle.read.proofs.{Tails.reads, Tails.reads_none, Tails.rest_carried, read_into.Statement.statement, read_into.Tie.close, read_into.Tie.spec}

pub read_into_spec : {M : Type 1} → statement M
unfolding figure_in part rest_of argument
read_into_spec =
    close (spec (omega arith) (omega arith)
    (λ c. let bad = c.before in let head = bad.before.before.head_of-h in reads_none head.result _ head.ensures.0 c.refused.ensures bad.if-h-eq0.true)
    (λ c κs. search rules)
    (λ c. let alone = c.before.before in let some = alone.before.before in
    reads _ some.before.before.head_of-h.ensures.0 (rw (ne_eqb _ _ some.if-h-eq0.false, le-leb _ _ alone.if-h-ge-ERROR.true, c.keep_head.ensures)))
    (omega arith) (λ c κs. search rules)
    (λ c. let asks = c.before.before in let more = asks.before.before in let some = more.before.before in let head = some.before.before.head_of-h in
    let q = sym asks.before.is_request.ensures ∙ asks.if-is_request.true in let one = eqb head.result.front.frame 1 in
    reads _ head.ensures.0 (rw (ne_eqb _ _ some.if-h-eq0.false, lt-leb _ _ more.if-h-ge-ERROR.false, and_left one _ q, and_right one _ q) c.asked.ensures))
    (λ c κs. search rules)
    (λ c. let lent = c.before.before.before in let carries = lent.before.before in let more = carries.before.before in let some = more.before.before in
    reads _ some.before.before.head_of-h.ensures.0 (c.carried.ensures
    ∙ ap (λ x. held (answered x)) (rest_carried _ _ some.if-h-eq0.false more.if-h-ge-ERROR.false (sym carries.before.is_request.ensures ∙ carries.if-is_request.false)))))
