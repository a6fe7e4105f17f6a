use Rattle.std.proofs.Common.{sym, ◌∙◌, arith}
use Rattle.trace_framing.proofs.Laws.{lengths_more, lengths_short, lengths_end, lengths_start}
use Rattle.trace_framing.proofs.lengths_fit.Goals as goal

pub loop-i-init : goal.loop-i-init
loop-i-init c = lengths_start _ _ _

pub returns-then-left-count : goal.returns-then-left-count
returns-then-left-count c = sym (lengths_short _ c.loop-i.i _ c.loop-i.left _ c.size-count.ensures (omega arith) c.if-left-count.true) ∙ c.loop-i.invariant

pub loop-i-preserved : goal.loop-i-preserved
loop-i-preserved c = sym (lengths_more _ c.loop-i.i _ c.loop-i.left _ c.size-count.ensures (omega arith) c.if-left-count.false) ∙ c.loop-i.invariant

pub returns : goal.returns
returns c = sym (lengths_end _ c.loop-i.i _ c.loop-i.left (omega arith)) ∙ c.loop-i.invariant
