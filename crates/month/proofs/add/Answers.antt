use Rattle.std.proofs.Common.{sym, ◌∙◌}
use Rattle.month.proofs.Adding.{add_10, add_in}
use Rattle.month.proofs.add.Goals as goal

pub returns-then-not-in_range : goal.returns-then-not-in_range
returns-then-not-in_range c = c.answer.ensures ∙ sym (add_10 _ _ _ (sym c.in_range.ensures ∙ c.if-not-in_range.true))

pub returns : goal.returns
returns c = c.add_figure.ensures ∙ sym (add_in _ _ _ (sym c.in_range.ensures ∙ c.if-not-in_range.false))
