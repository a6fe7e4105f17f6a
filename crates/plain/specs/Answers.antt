-- What the plain engine answers about an event list in slices: by the rules over the list. Slices that are no list are 48, and then all else is zero.
use Rattle.std.specs.Prelude.{ℕ, List, [], cond, length}
use Rattle.types.specs.declared.Charge.{Charge}
use Rattle.types.specs.Arguments.{no_charge}
use Rattle.requests.specs.Sets.{empty_set}
use Rattle.phases.specs.Phases.{no_service}
use Rattle.account.specs.declared.Marks.{Marks}
use Rattle.account.specs.declared.Pending.{Pending}
use Rattle.account.specs.History.{phase, requests, current_rate, running, closing, marks, no_closing, pending_of}
use Rattle.events.specs.Events.{adds_up, events_of}
use Rattle.plain_lists.specs.Lists.{outcome_at, history}
use Rattle.plain.specs.declared.PlainOutcome.{PlainOutcome}
use Rattle.plain.specs.declared.PlainPhase.{PlainPhase}
use Rattle.plain.specs.declared.PlainPending.{PlainPending}
use Rattle.plain.specs.declared.PlainMarks.{PlainMarks}
use Rattle.plain.specs.declared.PlainCharge.{PlainCharge}
use Rattle.plain.specs.declared.PlainClosing.{PlainClosing}

abbrev pub is_list : {A : Type 0} → List ℕ → List ℕ → A → A → A
is_list rows octets answer otherwise = cond (adds_up rows (length octets)) answer otherwise

unfoldable pub plain_outcome : List ℕ → List ℕ → ℕ → PlainOutcome
plain_outcome rows octets k =
    is_list rows octets (record { number = 0; outcome = outcome_at [] (events_of rows octets) k }) (record { number = 48; outcome = no_service 0 })

unfoldable pub plain_phase : List ℕ → List ℕ → PlainPhase
plain_phase rows octets = is_list rows octets (record { number = 0; phase = phase (history rows octets) }) (record { number = 48; phase = 0 })

abbrev pub no_pending : Pending
no_pending = record { asked = empty_set; unused = 0; s = 0; d = 0; e = 0 }

unfoldable pub plain_pending : List ℕ → List ℕ → PlainPending
plain_pending rows octets = is_list rows octets (record { number = 0; pending = pending_of (requests (history rows octets)) }) (record { number = 48; pending = no_pending })

abbrev pub plain_charge : List ℕ → List ℕ → Charge → PlainCharge
plain_charge rows octets c = is_list rows octets (record { number = 0; value = c }) (record { number = 48; value = no_charge })

unfoldable pub plain_current_rate : List ℕ → List ℕ → PlainCharge
plain_current_rate rows octets = plain_charge rows octets (current_rate (history rows octets))

unfoldable pub plain_running : List ℕ → List ℕ → PlainCharge
plain_running rows octets = plain_charge rows octets (running (history rows octets))

unfoldable pub plain_closing : List ℕ → List ℕ → PlainClosing
plain_closing rows octets = is_list rows octets (record { number = 0; closing = closing (history rows octets) }) (record { number = 48; closing = no_closing })

abbrev pub no_marks : Marks
no_marks = record { absent = empty_set; conflict = empty_set }

unfoldable pub plain_marks : List ℕ → List ℕ → PlainMarks
plain_marks rows octets = is_list rows octets (record { number = 0; marks = marks (history rows octets) }) (record { number = 48; marks = no_marks })
