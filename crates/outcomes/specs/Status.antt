-- What a status says, and what an event does to it; where an outcome keeps its figure.
use Rattle.std.specs.Prelude.{ℕ, Bool, false, not, ◌||◌, cond, eqb, Option, Some, None}
use Rattle.types.specs.declared.Charge.{Charge}
use Rattle.requests.specs.Sets.{with}
use Rattle.phases.specs.declared.Event.{Event}
use Rattle.phases.specs.declared.Outcome.{Outcome}
use Rattle.phases.specs.declared.Status.{Status}
use Rattle.phases.specs.Phases.{Component, leads_to, S, D, E, moved}
use Rattle.outcomes.specs.declared.Place.{Place}
use Rattle.outcomes.specs.declared.Place.TheVariants.{Rate, Running, FinalOfD, FinalOfE}
use Rattle.outcomes.specs.Outcome.{is_not_available, Requests, First, was, its, settles}

-- ---- what is kept: a figure of kind 0 is none

abbrev pub is_given : Charge → Bool
is_given c = not (is_not_available c)

abbrev pub first_figure : Charge → First
first_figure c = record { given = is_given c; charge = c }

abbrev pub requests_of : Status → Requests
requests_of t = record { asked = t.asked; s = t.s; d = t.d; e = t.e }

-- ---- the status after a component, by its outcome

abbrev pub noted : Status → Outcome → Status
noted t r = record {
  phase = t.phase;
  asked = record {
    s = cond (settles S r) 0 t.asked.s;
    d = cond (settles D r) 0 t.asked.d;
    e = cond (settles E r) 0 t.asked.e;
  };
  s = cond (settles S r) 0 t.s;
  d = cond (settles D r) 0 t.d;
  e = cond (settles E r) 0 t.e;
  absent = cond (was 23 r) (with t.absent r.service) t.absent;
  conflict = cond (was 29 r) (with t.conflict r.service) t.conflict;
}

-- ---- the status after any event, by its outcome

abbrev pub status_after : Status → Event → Outcome → Status
status_after t e r =
    cond (eqb e.kind Component) (noted t r)
    (cond (was 0 r) (moved t e (leads_to e.kind t.phase)) t)

-- ---- where a figure is kept, if it is

abbrev pub place_of : Outcome → Option Place
place_of r =
    cond (was 20 r || its S 24 r) (Some Rate)
    (cond (was 21 r) (Some Running) (cond (its D 22 r) (Some FinalOfD) (cond (its E 22 r) (Some FinalOfE) None)))

abbrev pub place_number : Place → ℕ
place_number Rate = 1
place_number Running = 2
place_number FinalOfD = 3
place_number FinalOfE = 4

-- whether a figure is kept at a place
abbrev pub is_at : Place → Option Place → Bool
is_at p None = false
is_at p (Some q) = eqb (place_number p) (place_number q)

-- the number of where a figure is kept, 0 where it is kept nowhere
abbrev pub place_or_none : Option Place → ℕ
place_or_none None = 0
place_or_none (Some p) = place_number p
