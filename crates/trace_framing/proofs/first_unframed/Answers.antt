use Rattle.std.proofs.Common.{◌+◌, sym, ap, ◌∙◌, arith}
use Rattle.trace_framing.specs.Framing.{first_unframed}
use Rattle.trace_framing.proofs.Laws.{passing_starts, from_start, passes_on, ends_inside, unframed_here, framed_on, nothing_left, numbered_some, numbered_none}
use Rattle.trace_framing.proofs.first_unframed.Goals as goal

pub loop-i-init : goal.loop-i-init
loop-i-init c = (passing_starts _ _ c.requires, ap (first_unframed 1) (from_start _ _))

pub slice_bounds-is_framed-end : goal.slice_bounds-is_framed-end
slice_bounds-is_framed-end c = omega (arith, ends_inside c.loop-i.invariant.0 c.loop-i-test.true c.size.ensures)

pub overflow_add-end : goal.overflow_add-end
overflow_add-end c = omega (arith, ends_inside c.loop-i.invariant.0 c.loop-i-test.true c.size.ensures)

pub returns-then-not-is_framed : goal.returns-then-not-is_framed
returns-then-not-is_framed c =
    numbered_some _ (unframed_here c.loop-i.invariant.0 c.loop-i-test.true c.size.ensures (sym c.is_framed.ensures ∙ c.if-not-is_framed.true) ∙ c.loop-i.invariant.1)

pub loop-i-preserved : goal.loop-i-preserved
loop-i-preserved c =
    let i = c.loop-i.invariant in
    let framed = sym c.is_framed.ensures ∙ c.if-not-is_framed.false in
    (passes_on i.0 c.loop-i-test.true c.size.ensures, framed_on i.0 c.loop-i-test.true c.size.ensures framed ∙ i.1)

pub returns : goal.returns
returns c = numbered_none (sym c.loop-i.invariant.1 ∙ ap (first_unframed (c.loop-i.i + 1)) (nothing_left _ _ c.loop-i.i c.loop-i.at c.loop-i-test.false))
