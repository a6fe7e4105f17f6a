-- No event from i on was that outcome.
use Rattle.std.proofs.Common.{◌≡◌}
use Rattle.outcomes.specs.Outcome.{its}
use Rattle.account.specs.History.{any, judged}
use Rattle.events.specs.inner.Prefix.{before}
use Rattle.plain_lists.specs.Lists.{history}
use Rattle.plain_lists.proofs.told.Given as goal

abbrev pub invariant-loop-i : goal.invariant-loop-i
invariant-loop-i l = any (λ j. its l.service l.number j.outcome) (judged (before l.rows l.octets l.i)) ≡ any (λ j. its l.service l.number j.outcome) (history l.rows l.octets)
