-- What the inner functions do, by the numbers that they are handed. proofs/Transitions.antt ties them to the table of transitions.
use Rattle.std.specs.Prelude.{ℕ, ◌&&◌, cond, eqb, Option, Some, None}
use Rattle.phases.specs.declared.Event.{Event}
use Rattle.phases.specs.declared.Status.{Status}
use Rattle.phases.specs.declared.Moving.{Moving}
use Rattle.phases.specs.Phases.{Idle, Setup, Request, no_request, allowed, leads_to, no_service, clashes, moved}

-- the phase that an event leads to, and Idle where it is not allowed: nothing leads to Idle
abbrev pub led_to : ℕ → ℕ → ℕ
led_to kind phase = cond (allowed kind phase) (leads_to kind phase) Idle

-- the phase that an event leads to, if it is allowed
abbrev pub next_phase : ℕ → ℕ → Option ℕ
next_phase kind phase = cond (allowed kind phase) (Some (leads_to kind phase)) None

-- what is kept of an identifier that is asked for
abbrev pub kept : Option ℕ → Request
kept None = no_request
kept (Some id) = record { mark = 1; id = id }

-- ---- what an event that is no component changes

abbrev pub moving : ℕ → Status → Moving
moving n t = record { outcome = no_service n; status = t }

unfoldable pub moving_of : Status → Event → Moving
moving_of t e =
    cond (allowed e.kind t.phase)
    (cond (eqb e.kind Setup && clashes e) (moving 13 t) (moving 0 (moved t e (leads_to e.kind t.phase))))
    (moving 14 t)
