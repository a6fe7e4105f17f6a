use Rattle.std.proofs.Common.{sym, ◌∙◌, arith}
use Rattle.trace_framing.proofs.Laws.{end_past, fit_more, fit_short, fit_end}
use Rattle.trace_framing.proofs.elements_fit.Goals as goal

pub returns-then-end-next : goal.returns-then-end-next
returns-then-end-next c = sym (fit_short _ c.loop-at.at c.loop-at-test.true c.element_end-next.ensures c.if-end-next.true) ∙ c.loop-at.invariant.1

pub loop-at-smaller : goal.loop-at-smaller
loop-at-smaller c = omega (arith, c.element_end-next.ensures, end_past c.args.s.now c.loop-at.at)

pub loop-at-preserved : goal.loop-at-preserved
loop-at-preserved c = (c.if-end-next.false, sym (fit_more _ c.loop-at.at c.loop-at-test.true c.element_end-next.ensures c.if-end-next.false) ∙ c.loop-at.invariant.1)

pub returns : goal.returns
returns c = sym (fit_end _ c.loop-at.at c.loop-at.invariant.0 c.loop-at-test.false) ∙ c.loop-at.invariant.1
