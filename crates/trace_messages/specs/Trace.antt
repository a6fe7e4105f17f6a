-- The events of a trace, in 01's order.
use Rattle.std.specs.Prelude.{ℕ, zero, suc, ◌+◌, ◌*◌, ◌%◌, List, [], ◌∷◌, ◌++◌, Bool, true, false, not, ◌&&◌, ◌||◌, cond, length, get_or, eqb, leb}
use Rattle.coding.specs.Reader.{part}
use Rattle.types.specs.declared.Answer.{Answer}
use Rattle.types.specs.Frames.{read_of}
use Rattle.requests.specs.Sets.{empty_set}
use Rattle.phases.specs.Phases.{Setup, Connect, Clear, Released, Component, Request, no_request, Given, event}
use Rattle.element.specs.declared.Starts.{Starts}
use Rattle.element.specs.Element.{element_of, malformed}
use Rattle.element.specs.Cut.{starts_of, parts_of}
use Rattle.trace_messages.specs.declared.Gives.{Gives}
use Rattle.trace_framing.specs.Framing.{element_end, type_place, type_of, framed, Message}

-- ---- types, references, shifts

abbrev pub is_clearing : ℕ → Bool
is_clearing t = eqb t 0x45 || (eqb t 0x4d || eqb t 0x5a)

-- the call reference without its flag: a number, or 32768 where there are no reference octets
abbrev pub reference : List ℕ → ℕ
reference s =
    cond (eqb (get_or s 1 0) 0) 32768
    (cond (eqb (get_or s 1 0) 1) (get_or s 2 0 % 128) (get_or s 2 0 % 128 * 256 + get_or s 3 0))

-- 90 to 97 locking, 98 to 9F non-locking. What is under a shift: 0 nothing, 1 the next element, 2 the rest of the message
abbrev pub is_shift : ℕ → Bool
is_shift x = leb 0x90 x && leb x 0x9f

abbrev pub under_after : ℕ → ℕ → ℕ
under_after u x = cond (eqb u 2) 2 (cond (is_shift x) (cond (leb x 0x97) 2 1) 0)

-- ---- the components of a message

-- where those of a Facility element begin: with the profile octet 91 by 01's rule of elements; one with another, 9F too, has none, as a malformed one
unfoldable pub tiles_of : List ℕ → Starts
tiles_of e = cond (eqb (get_or e 2 0) 0x91) (element_of e) malformed

abbrev pub components_in : List ℕ → List (List ℕ)
components_in e = cond (eqb (tiles_of e).number 0) (parts_of e (starts_of (tiles_of e))) []

-- of the element at a place: a Facility element under no shift
abbrev pub components_at : List ℕ → ℕ → ℕ → List (List ℕ)
components_at s at under = cond (eqb under 0 && eqb (get_or s at 0) 0x1c) (components_in (part s at (element_end s at))) []

unfoldable pub components_from : ℕ → List ℕ → ℕ → ℕ → List (List ℕ)
components_from zero s at under = []
components_from (suc turns) s at under =
    cond (eqb at (length s)) [] (components_at s at under ++ components_from turns s (element_end s at) (under_after under (get_or s at 0)))

-- those of the elements that are left at a place, and of all elements from a place on
abbrev pub components_left : List ℕ → ℕ → ℕ → List (List ℕ)
components_left s at under = components_from (suc (length s)) s at under

abbrev pub components_after : List ℕ → ℕ → List (List ℕ)
components_after s start = components_left s start 0

unfoldable pub components_of : List ℕ → List (List ℕ)
components_of s = components_after s (type_place s + 1)

-- ---- a SETUP's requests

-- an accepted ChargingRequest for a case: 0 S, 1 D, 2 E
abbrev pub is_request : ℕ → Answer → Bool
is_request case a =
    eqb a.number 0 && (eqb a.value.front.frame 1 && (eqb a.value.front.operation 30 && eqb a.value.front.detail case))

abbrev pub first_request : ℕ → List (List ℕ) → Request
first_request case [] = no_request
first_request case (o ∷ l) = cond (is_request case (read_of o)) (record { mark = 1; id = (read_of o).value.front.id }) (first_request case l)

-- ---- events

-- an event that asks for nothing
abbrev pub phase_event : ℕ → Given
phase_event kind = event (record { kind = kind; asked = empty_set; s = 0; d = 0; e = 0 }) []

abbrev pub component_event : List ℕ → Given
component_event o = event (record { kind = Component; asked = empty_set; s = 0; d = 0; e = 0 }) o

abbrev pub setup_by : List (List ℕ) → Given
setup_by l =
    event (record {
      kind = Setup;
      asked = record { s = (first_request 0 l).mark; d = (first_request 1 l).mark; e = (first_request 2 l).mark };
      s = (first_request 0 l).id;
      d = (first_request 1 l).id;
      e = (first_request 2 l).id;
    }) []

abbrev pub component_events : List (List ℕ) → List Given
component_events [] = []
component_events (o ∷ l) = component_event o ∷ component_events l

abbrev pub when : Bool → List Given → List Given
when b l = cond b l []

-- Setup; Clear; the components; Connect; Released: those that a message gives
abbrev pub laid_out : Gives → List (List ℕ) → List Given
laid_out g l =
    when g.setup (setup_by l ∷ [])
    ++ (when g.clear (phase_event Clear ∷ [])
    ++ (when g.components (component_events l)
    ++ (when g.connect (phase_event Connect ∷ [])
    ++ when g.released (phase_event Released ∷ []))))

-- by its type, its direction, and whether a clearing message came before
abbrev pub gives_by : ℕ → Bool → Bool → Gives
gives_by t network cleared = record {
  setup = not network && eqb t 0x05;
  clear = is_clearing t && not cleared;
  components = network;
  connect = network && eqb t 0x07;
  released = eqb t 0x5a;
}

unfoldable pub message_events : Bool → Message → List Given
message_events cleared m = laid_out (gives_by (type_of m.octets) m.network cleared) (components_of m.octets)

-- a message with another reference gives none, and clears nothing
abbrev pub of_call : ℕ → Bool → Message → List Given
of_call call cleared m = when (eqb (reference m.octets) call) (message_events cleared m)

abbrev pub cleared_by : ℕ → Bool → List ℕ → Bool
cleared_by call cleared s = cond (eqb (reference s) call) (cleared || is_clearing (type_of s)) cleared

unfoldable pub trace_from : ℕ → Bool → List Message → List Given
trace_from call cleared [] = []
trace_from call cleared (m ∷ l) = of_call call cleared m ++ trace_from call (cleared_by call cleared m.octets) l

-- the first message's reference is the call's
unfoldable pub trace_events : List Message → List Given
trace_events [] = []
trace_events (m ∷ l) = trace_from (reference m.octets) false (m ∷ l)

abbrev pub all_framed : List Message → Bool
all_framed [] = true
all_framed (m ∷ l) = framed m.octets && all_framed l
