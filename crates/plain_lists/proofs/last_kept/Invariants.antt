-- No event from i on is kept there.
use Rattle.std.proofs.Common.{◌≡◌, ◌≤◌, ◌/◌, length, eqb}
use Rattle.outcomes.specs.Status.{place_of, place_or_none}
use Rattle.account.specs.History.{last, judged}
use Rattle.events.specs.inner.Prefix.{before}
use Rattle.plain_lists.specs.Lists.{history}
use Rattle.plain_lists.proofs.last_kept.Given as goal

abbrev pub invariant-loop-i : goal.invariant-loop-i
invariant-loop-i l =
    last (λ j. eqb (place_or_none (place_of j.outcome)) l.place) (judged (before l.rows l.octets l.i)) ≡ last (λ j. eqb (place_or_none (place_of j.outcome)) l.place) (history l.rows l.octets)
