use Rattle.std.proofs.Common.{◌≤◌, ◌∙◌, sym, ap, arith}
use Rattle.types.specs.declared.Answer.{Answer}
use Rattle.outcomes.proofs.Refusals.{number_fits}
use Rattle.step_rules.proofs.Changes.{taken_refused, taken_unkept, taken_kept}
use Rattle.step_rules.proofs.taken.Goals as goal

pub overflow_cast-answer : goal.overflow_cast-answer
overflow_cast-answer c =
    let h : c.read_into-answer.result.number ≤ 255 = rw (ap (λ (x : Answer). x.number) c.read_into-answer.ensures) (number_fits _) in
    omega arith

pub returns-then-answer-ne0 : goal.returns-then-answer-ne0
returns-then-answer-ne0 c = c.plain.ensures ∙ taken_refused c.args.a c.args.octets.now _ c.read_into-answer.ensures c.if-answer-ne0.true

pub returns-in-None : goal.returns-in-None
returns-in-None c =
    let read = rw (← c.figure_of-figure.ensures, ← c.front_of-front.ensures) at c.read_into-answer.ensures in
    c.still.ensures
    ∙ taken_unkept c.args.a c.args.octets.now _ read c.if-answer-ne0.false c.claimed-claim.ensures c.resolved-outcome.ensures c.noted-status.ensures (sym c.place_of.ensures ∙ c.in-None.is)

pub returns-in-Some : goal.returns-in-Some
returns-in-Some c =
    let read = rw (← c.figure_of-figure.ensures, ← c.front_of-front.ensures) at c.read_into-answer.ensures in
    taken_kept c.args.a c.args.octets.now _ read c.if-answer-ne0.false c.claimed-claim.ensures c.resolved-outcome.ensures c.noted-status.ensures _ (sym c.place_of.ensures ∙ c.in-Some.is)
