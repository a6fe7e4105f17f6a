use Rattle.std.proofs.Common.{◌∙◌, sym, ap, not}
use Rattle.step_rules.proofs.Changes.{phase_change, not_allowed, heard, by_list, is_allowed}
use Rattle.step_rules.proofs.step.Goals as goal

pub returns-then-e-ne-COMPONENT-clause-one : goal.returns-then-e-ne-COMPONENT-clause-one
returns-then-e-ne-COMPONENT-clause-one c = c.still.ensures ∙ rw c.phase_step-m.ensures (phase_change c.args.a c.args.e c.args.octets.now c.if-e-ne-COMPONENT.true)

pub returns-then-is_none-clause-one : goal.returns-then-is_none-clause-one
returns-then-is_none-clause-one c =
    c.plain.ensures
    ∙ not_allowed c.args.a c.args.e c.args.octets.now c.if-e-ne-COMPONENT.false (sym (is_allowed c.args.e.kind c.args.a.status.phase c.next_phase.ensures) ∙ c.is_none.ensures ∙ ap not c.if-is_none.true)

pub returns-clause-one : goal.returns-clause-one
returns-clause-one c =
    c.taken.ensures
    ∙ heard c.args.a c.args.e c.args.octets.now c.if-e-ne-COMPONENT.false (sym (is_allowed c.args.e.kind c.args.a.status.phase c.next_phase.ensures) ∙ c.is_none.ensures ∙ ap not c.if-is_none.false)

pub returns-then-e-ne-COMPONENT-clause-rules : goal.returns-then-e-ne-COMPONENT-clause-rules
returns-then-e-ne-COMPONENT-clause-rules c = by_list c.args.a c.args.e c.args.octets.now (returns-then-e-ne-COMPONENT-clause-one c)

pub returns-then-is_none-clause-rules : goal.returns-then-is_none-clause-rules
returns-then-is_none-clause-rules c = by_list c.args.a c.args.e c.args.octets.now (returns-then-is_none-clause-one c)

pub returns-clause-rules : goal.returns-clause-rules
returns-clause-rules c = by_list c.args.a c.args.e c.args.octets.now (returns-clause-one c)
