-- Why a call has no price: one reason, and the number of an event, from the call's event list.
use Rattle.std.specs.Prelude.{ℕ, List, reverse, Bool, ◌&&◌, ◌||◌, cond, length, eqb}
use Rattle.types.specs.declared.Record.{Record}
use Rattle.types.specs.Frames.{read_of}
use Rattle.phases.specs.declared.Outcome.{Outcome}
use Rattle.phases.specs.Phases.{Ended, D, E, Given}
use Rattle.outcomes.specs.Outcome.{was, its}
use Rattle.account.specs.History.{Judged, judged, phase}
use Rattle.events.specs.Events.{adds_up, events_of}
use Rattle.events.specs.Earliest.{within, earliest}
use Rattle.why_rules.specs.declared.Reason.{Reason}

-- ---- which events count

-- a figure of D or E: an invoke 33 to 36 with free (kind 1), money (2) or units (3)
abbrev pub is_figure : Record → Bool
is_figure c = eqb c.front.frame 1 && (within 33 c.front.operation 36 && within 1 c.charge.figure.kind 3)

-- a D or E figure with outcome 26 or 27
abbrev pub passed_over : Outcome → List ℕ → Bool
passed_over r o = (was 26 r || was 27 r) && is_figure (read_of o).value

-- D or E reported as not available
abbrev pub told_absent : Outcome → Bool
told_absent r = its D 23 r || its E 23 r

-- a component refused in decoding: 1 to 9, and 40 to 45 in place of 9
abbrev pub unread : Outcome → Bool
unread r = within 1 r.number 9 || within 40 r.number 45

-- ---- the reason

abbrev pub because : ℕ → ℕ → Reason
because n event = record { number = 0; reason = n; event = event }

-- the reason if an event is found for it, else what follows in the order
abbrev pub if_found : ℕ → ℕ → Reason → Reason
if_found n event rest = cond (eqb event 0) rest (because n event)

-- 1 still open; 2 there is a closing figure: E's only 22, else D's; 3 a figure was ignored or out of phase; 4 reported as not available;
-- 5 only running figures; 6 a component was refused; 7 nothing usable came in time
unfoldable pub explained : List Judged → Reason
explained h =
    cond (eqb (phase h) Ended)
    (if_found 2 (earliest (λ j. its E 22 j.outcome) h)
    (if_found 2 (earliest (λ j. its D 22 j.outcome) h)
    (if_found 3 (earliest (λ j. passed_over j.outcome j.octets) h)
    (if_found 4 (earliest (λ j. told_absent j.outcome) h)
    (if_found 5 (earliest (λ j. was 21 j.outcome) h)
    (if_found 6 (earliest (λ j. unread j.outcome) h)
    (because 7 0)))))))
    (because 1 0)

-- of a list of events as they came
unfoldable pub reason_of : List Given → Reason
reason_of l = explained (judged (reverse l))

-- of a list in slices; slices that are no list are 48
unfoldable pub why_of : List ℕ → List ℕ → Reason
why_of rows octets = cond (adds_up rows (length octets)) (reason_of (events_of rows octets)) (record { number = 48; reason = 0; event = 0 })
