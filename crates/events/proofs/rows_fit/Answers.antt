use Rattle.std.proofs.Common.{sym, ◌∙◌, arith}
use Rattle.events.proofs.Laws.{fits_more, fits_short, fits_end, fits_start}
use Rattle.events.proofs.rows_fit.Goals as goal

pub loop-i-init : goal.loop-i-init
loop-i-init c = fits_start _ _ _

pub returns-then-left-count : goal.returns-then-left-count
returns-then-left-count c = sym (fits_short _ c.loop-i.i _ c.loop-i.left _ c.count_at-count.ensures (omega arith) c.if-left-count.true) ∙ c.loop-i.invariant

pub loop-i-preserved : goal.loop-i-preserved
loop-i-preserved c = sym (fits_more _ c.loop-i.i _ c.loop-i.left _ c.count_at-count.ensures (omega arith) c.if-left-count.false) ∙ c.loop-i.invariant

pub returns : goal.returns
returns c = sym (fits_end _ c.loop-i.i _ c.loop-i.left (omega arith)) ∙ c.loop-i.invariant
