-- The event list of a trace, stored in the caller's two slices.
use Rattle.std.specs.Prelude.{ℕ, ◌*◌, List, ◌++◌, Bool, ◌&&◌, cond, length, drop, eqb, leb}
use Rattle.phases.specs.Phases.{Given}
use Rattle.events.specs.Laid.{rows_of, octets_of}
use Rattle.trace_framing.specs.Framing.{messages_of, verdict_of}
use Rattle.trace_messages.specs.Trace.{trace_events}
use Rattle.trace.specs.declared.Laid.{Laid}

abbrev pub events_in : List ℕ → List ℕ → List Given
events_in pairs octets = trace_events (messages_of pairs octets)

-- six numbers and an octet for each octet of the trace, which are enough for any
abbrev pub fits_in : ℕ → ℕ → ℕ → Bool
fits_in n numbers room = leb (n * 6) numbers && leb n room

abbrev pub laid : ℕ → ℕ → ℕ → ℕ → Laid
laid number message events octets = record { number = number; message = message; events = events; octets = octets }

-- how many events and octets the list has; 12 where there is less room
abbrev pub room_of : List Given → ℕ → ℕ → ℕ → Laid
room_of l n numbers room = cond (fits_in n numbers room) (laid 0 0 (length l) (length (octets_of l))) (laid 12 0 0 0)

-- 48; then 49 with the first message that is not framed; then 12
unfoldable pub laid_of : List ℕ → List ℕ → ℕ → ℕ → Laid
laid_of pairs octets numbers room =
    cond (eqb (verdict_of pairs octets).number 0) (room_of (events_in pairs octets) (length octets) numbers room) (laid (verdict_of pairs octets).number (verdict_of pairs octets).message 0 0)

-- what a slice holds where the list is laid, xs in front of what was there; else all that was there
abbrev pub laid_over : Bool → List ℕ → List ℕ → List ℕ
laid_over done xs before = cond done (xs ++ drop (length xs) before) before

abbrev pub is_laid : List ℕ → List ℕ → List ℕ → List ℕ → Bool
is_laid pairs octets rows out = eqb (laid_of pairs octets (length rows) (length out)).number 0

unfoldable pub rows_left : List ℕ → List ℕ → List ℕ → List ℕ → List ℕ
rows_left pairs octets rows out = laid_over (is_laid pairs octets rows out) (rows_of (events_in pairs octets)) rows

unfoldable pub octets_left : List ℕ → List ℕ → List ℕ → List ℕ → List ℕ
octets_left pairs octets rows out = laid_over (is_laid pairs octets rows out) (octets_of (events_in pairs octets)) out
