use Rattle.std.proofs.Common.{◌∙◌, arith}
use Rattle.lines_rules.proofs.Steps.{turns_none, turns_more, turn_open, heard_on, heard_end}
use Rattle.lines_rules.proofs.take_line.Goals as goal

pub loop-at-init : goal.loop-at-init
loop-at-init c = (c.take_ready-w.ensures.heard.inside, omega arith, λ t. turns_none _ _ _)

pub loop-at-preserved : goal.loop-at-preserved
loop-at-preserved c = (
  omega arith,
  omega arith,
  λ t. turns_more _ _ _ _ (omega arith) (omega arith) (c.loop-at.invariant.2 t) ∙ turn_open _ _ t _ c.if-b-eq10.false ∙ rw (c.fed-line.ensures.value, c.fed-line.ensures.octets_after),
)

pub returns-then-b-eq10-clause-heard : goal.returns-then-b-eq10-clause-heard
returns-then-b-eq10-clause-heard c =
    let h = c.take_ready-w.ensures.heard in
    rw c.went_to.ensures
    (heard_end (omega (arith, h.onward)) (omega arith) (heard_on _ _ _ _ _ _ h c.if-w.false _ _ _ c.loop-at.invariant.1 c.loop-at.invariant.2) c.if-b-eq10.true).0

pub returns-clause-heard : goal.returns-clause-heard
returns-clause-heard c =
    let h = c.take_ready-w.ensures.heard in
    rw c.went_to-2.ensures
    (record {
      onward = omega (arith, h.onward);
      inside = omega arith;
      heard = heard_on _ _ _ _ _ _ h c.if-w.false _ _ _ c.loop-at.invariant.1 c.loop-at.invariant.2;
    })
