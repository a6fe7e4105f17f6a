use Rattle.std.proofs.Common.{rules, tests, ◌≡◌, ◌∙◌, ap, List}
use Rattle.phases.specs.Phases.{Given}
use Rattle.account.specs.{declared.Account.Account, declared.Closing.Closing, History.judged, History.account_by, History.closing, Step.closing_of}
use Rattle.account.proofs.Demand.{closing_stands}
use Rattle.account.proofs.closing_of.Goals as goal

-- what the account's own closing figure is of an account that stands for a history
of_list : (a : Account) {r : Closing} → r ≡ closing_of a → (h : List Given) → a ≡ account_by (judged h) → r ≡ closing (judged h)
of_list a q h s = q ∙ ap closing_of s ∙ closing_stands h

pub returns-then-e-ne-NONE-clause-rules : goal.returns-then-e-ne-NONE-clause-rules
returns-then-e-ne-NONE-clause-rules c = of_list c.args.a (search (rules, tests))

pub returns-then-d-ne-NONE-clause-rules : goal.returns-then-d-ne-NONE-clause-rules
returns-then-d-ne-NONE-clause-rules c = of_list c.args.a (search (rules, tests))

pub returns-clause-rules : goal.returns-clause-rules
returns-clause-rules c = of_list c.args.a (search (rules, tests))
