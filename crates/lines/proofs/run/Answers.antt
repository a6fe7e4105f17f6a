use Rattle.std.proofs.Common.{[], ◌∙◌, arith}
use Rattle.prelude.proofs.Prelude.{append-nil, append_assoc}
use Rattle.coding.proofs.Writing.{wrote_none, wrote_both}
use Rattle.lines_rules.proofs.Steps.{turns_none, turns_both, heard_open, heard_ended}
use Rattle.lines.proofs.run.Goals as goal

pub loop-at-init : goal.loop-at-init
loop-at-init c = (omega arith, omega arith, omega arith, omega arith, [], wrote_none _ _, λ t. turns_none _ _ _ ∙ rw append-nil)

pub loop-at-preserved-then-w : goal.loop-at-preserved-then-w
loop-at-preserved-then-w c =
    let i = c.loop-at.invariant in
    let w = c.take_line-w.ensures in (
      w.heard.inside,
      omega (arith, w.from_lt_at),
      omega arith,
      omega (arith, w.from_lt_at),
      _,
      wrote_both i.5 c.answer-used.ensures.wrote,
      λ t. turns_both _ _ _ _ _ i.1 w.heard.onward (i.6 t) (heard_ended _ _ _ _ _ _ w.heard c.if-w.true _ ∙ rw (c.new_line-line.ensures, append_assoc)),
    )

pub loop-at-preserved : goal.loop-at-preserved
loop-at-preserved c =
    let i = c.loop-at.invariant in
    let w = c.take_line-w.ensures in (
      w.heard.inside,
      omega (arith, w.from_lt_at),
      omega arith,
      omega (arith, w.from_lt_at),
      _,
      i.5,
      λ t. turns_both _ _ _ _ _ i.1 w.heard.onward (i.6 t) (heard_open _ _ _ _ _ _ w.heard c.if-w.false _),
    )
