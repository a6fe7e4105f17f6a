-- Cases of traces, one statement over one table.
use Rattle.prelude.proofs.Prelude.{ℕ, ◌≡◌, refl, List, [], ◌∷◌, map, Bool, true, false}
use Rattle.coding.specs.{Reader.{after, numbered_at, endless, marker, turn, searched, find_end, spanned, length_at, extent, part}, Codec.pad}
use Rattle.element.specs.Element.{tiled, is_profile, led, starts_found, element_of}
use Rattle.phases.specs.Phases.{Given, Connect, Clear, Released}
use Rattle.trace_framing.specs.Framing.{Message, message, elements_fit, framed}
use Rattle.trace_messages.specs.Trace.{tiles_of, components_from, components_of, setup_by, phase_event, component_event, message_events, trace_from, trace_events}

pub record Case : Type 0 where
  pub messages : List Message
  pub framed_all : List Bool
  pub events : List Given

abbrev free : List ℕ
free = 0xa1 ∷ 0x08 ∷ 0x02 ∷ 0x01 ∷ 0x03 ∷ 0x02 ∷ 0x01 ∷ 0x21 ∷ 0x81 ∷ 0x00 ∷ []

abbrev facility : List ℕ → List ℕ
facility rest = 0x1c ∷ 0x0b ∷ 0x91 ∷ 0xa1 ∷ 0x08 ∷ 0x02 ∷ 0x01 ∷ 0x03 ∷ 0x02 ∷ 0x01 ∷ 0x21 ∷ 0x81 ∷ 0x00 ∷ rest

abbrev from_user : List ℕ → Message
from_user s = message (0x08 ∷ 0x01 ∷ 0x05 ∷ s) false

abbrev from_network : List ℕ → Message
from_network s = message (0x08 ∷ 0x01 ∷ 0x85 ∷ s) true

abbrev pub case : List Message → List Bool → List Given → Case
case m f e = record { messages = m; framed_all = f; events = e }

-- a CONNECT's components before Connect; only the first of the clearing messages gives Clear, RELEASE COMPLETE Released; a non-locking and a locking shift; a malformed element; a trunk's; another
-- reference; one octet and two octets, one number; a message that is not framed
abbrev pub cases : List Case
cases =
    case (from_user (0x05 ∷ []) ∷ from_network (0x07 ∷ facility []) ∷ []) (true ∷ true ∷ []) (setup_by [] ∷ component_event free ∷ phase_event Connect ∷ [])
    ∷ case (from_user (0x45 ∷ []) ∷ from_network (0x45 ∷ facility []) ∷ from_user (0x4d ∷ []) ∷ from_network (0x5a ∷ []) ∷ []) (true ∷ true ∷ true ∷ true ∷ [])
    (phase_event Clear ∷ component_event free ∷ phase_event Released ∷ [])
    ∷ case (from_network (0x62 ∷ 0x9e ∷ facility (facility [])) ∷ []) (true ∷ []) (component_event free ∷ [])
    ∷ case (from_network (0x62 ∷ 0x96 ∷ 0x28 ∷ 0x00 ∷ facility []) ∷ from_network (0x62 ∷ facility []) ∷ []) (true ∷ true ∷ []) (component_event free ∷ [])
    ∷ case (from_network (0x62 ∷ 0x1c ∷ 0x00 ∷ 0x1c ∷ 0x03 ∷ 0x91 ∷ 0xa1 ∷ 0x01 ∷ facility []) ∷ []) (true ∷ []) (component_event free ∷ [])
    ∷ case (from_network (0x62 ∷ 0x1c ∷ 0x03 ∷ 0x9f ∷ 0xa1 ∷ 0x00 ∷ facility []) ∷ []) (true ∷ []) (component_event free ∷ [])
    ∷ case (from_user (0x05 ∷ []) ∷ message (0x08 ∷ 0x01 ∷ 0x86 ∷ 0x07 ∷ []) true ∷ message (0x08 ∷ 0x02 ∷ 0x80 ∷ 0x05 ∷ 0x07 ∷ []) true ∷ []) (true ∷ true ∷ true ∷ [])
    (setup_by [] ∷ phase_event Connect ∷ [])
    ∷ case (from_network (0x62 ∷ 0x28 ∷ []) ∷ message (0x08 ∷ 0x03 ∷ 0x01 ∷ 0x02 ∷ 0x03 ∷ 0x62 ∷ []) true ∷ message (0x08 ∷ 0x00 ∷ []) true ∷ message (0x08 ∷ 0x00 ∷ 0x62 ∷ []) true ∷ [])
    (false ∷ false ∷ false ∷ true ∷ []) []
    ∷ []

abbrev tried : Case → Case
tried c = record { messages = c.messages; framed_all = map (λ (m : Message). framed m.octets) c.messages; events = trace_events c.messages }

pub cases_right : map tried cases ≡ cases
unfolding trace_events trace_from message_events components_of components_from tiles_of framed elements_fit part element_of led is_profile tiled starts_found numbered_at endless marker turn searched find_end spanned length_at extent after pad
cases_right = refl
