-- What is decided by value: the phase after an event, a service's request, and whether an outcome is looked for.
use Rattle.std.specs.Prelude.{ℕ, Bool, ◌&&◌, cond, eqb}
use Rattle.requests.specs.Sets.{empty_set}
use Rattle.phases.specs.declared.Event.{Event}
use Rattle.phases.specs.declared.Outcome.{Outcome}
use Rattle.phases.specs.declared.Status.{Status}
use Rattle.phases.specs.Phases.{Setup, S, D, E, allowed, leads_to, clashes, Request}
use Rattle.outcomes.specs.Outcome.{Requests, its, settles}
use Rattle.plain_rules.specs.declared.Ask.{Ask}

-- ---- the phase after an event that comes in a phase

abbrev pub next_by : ℕ → Event → ℕ
next_by phase e = cond (allowed e.kind phase) (cond (eqb e.kind Setup && clashes e) phase (leads_to e.kind phase)) phase

-- a status with a phase and nothing else
abbrev pub bare : ℕ → Status
bare phase = record { phase = phase; asked = empty_set; s = 0; d = 0; e = 0; absent = empty_set; conflict = empty_set }

-- ---- requests

abbrev pub ask_of : Request → Ask
ask_of q = record { mark = q.mark; id = q.id }

abbrev pub request_of : Ask → Request
request_of q = record { mark = q.mark; id = q.id }

-- one service's request alone
abbrev pub sole : ℕ → Request → Requests
sole s q = record {
  asked = record { s = cond (eqb s S) q.mark 0; d = cond (eqb s D) q.mark 0; e = cond (eqb s E) q.mark 0 };
  s = cond (eqb s S) q.id 0;
  d = cond (eqb s D) q.id 0;
  e = cond (eqb s E) q.id 0;
}

-- an outcome that is looked for: a service's final, or else one that answers its request
abbrev pub sought : Bool → ℕ → Outcome → Bool
sought finals s o = cond finals (its s 22 o) (settles s o)
