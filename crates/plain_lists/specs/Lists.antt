-- An event list: the outcome of an event by its number, and the history of all events.
use Rattle.std.specs.Prelude.{ℕ, ◌-◌, List, [], ◌∷◌, reverse, cond, eqb}
use Rattle.phases.specs.declared.Outcome.{Outcome}
use Rattle.phases.specs.Phases.{Given, no_service}
use Rattle.outcomes.specs.Outcome.{judge}
use Rattle.account.specs.History.{Judged, judged, known}
use Rattle.events.specs.Events.{events_of}

-- the outcome of event k of a list, from 1, after the events of a history; zero for a number that is no event's
unfoldable pub outcome_at : List Given → List Given → ℕ → Outcome
outcome_at h [] k = no_service 0
outcome_at h (g ∷ l) k = cond (eqb k 1) (judge (known (judged h)) g.event g.octets) (outcome_at (g ∷ h) l (k - 1))

-- all events of a list in slices, each with its outcome, the latest first
abbrev pub history : List ℕ → List ℕ → List Judged
history rows octets = judged (reverse (events_of rows octets))
