-- The events of a trace fit slices as long as the trace, and are read off them again.
use Rattle.prelude.proofs.Prelude.{◌≡◌, refl, ap, ◌∙◌, ℕ, ◌+◌, ◌≤◌, arith, Bool, true, false, List, [], ◌∷◌, ◌++◌, length, length-append, length-drop, eqb}
use Rattle.prelude.proofs.{Prelude.eqb-true, Ways.by_cases}
use Rattle.types.specs.Frames.{read_of}
use Rattle.phases.{specs.Phases.Given}
use Rattle.element.{specs.Cut.joined, proofs.Tiles.tiles}
use Rattle.events.{specs.Events.{events_of, adds_up}, specs.Laid.{rows_of, octets_of}, proofs.Laid.{octets_append, AllFine, reads_back, adds_back}}
use Rattle.trace_framing.specs.Framing.{type_of, framed, Message}
use Rattle.trace_messages.specs.Trace.{reference, tiles_of, components_in, components_of, is_request, first_request, component_events, setup_by, phase_event, when}
use Rattle.trace_messages.specs.{Trace.{laid_out, gives_by, message_events, of_call, cleared_by, all_framed, trace_from, trace_events}, declared.Gives.Gives}
use Rattle.trace_messages.proofs.{Theorems.{total, tiles_found, joined_append, of_few, trace_few}, Walk.tiles_are}

-- ---- marks are 0 or 1

mark_small : (case : ℕ) (l : List (List ℕ)) → (first_request case l).mark ≤ 1
mark_small case [] = omega arith
mark_small case (o ∷ l) = by_cases (is_request case (read_of o)) (λ t. rw t (omega arith)) (λ t. rw t (mark_small case l))

all_append : (l m : List Given) → AllFine l → AllFine m → AllFine (l ++ m)
all_append [] m v w = w
all_append (g ∷ l) m v w = (v.0, all_append l m v.1 w)

all_when : (b : Bool) (l : List Given) → AllFine l → AllFine (when b l)
all_when true l v = v
all_when false l v = tt

plain_fine : (kind : ℕ) → kind ≤ 255 → AllFine (phase_event kind ∷ [])
plain_fine kind h = (record { kind = h; s = omega arith; d = omega arith; e = omega arith }, tt)

components_fine : (l : List (List ℕ)) → AllFine (component_events l)
components_fine [] = tt
components_fine (o ∷ l) = (record { kind = omega arith; s = omega arith; d = omega arith; e = omega arith }, components_fine l)

laid_fine : (g : Gives) (l : List (List ℕ)) → AllFine (laid_out g l)
laid_fine g l =
    all_append (when g.setup (setup_by l ∷ [])) _ (all_when g.setup _ (record { kind = omega arith; s = mark_small 0 l; d = mark_small 1 l; e = mark_small 2 l }, tt))
    (all_append (when g.clear (phase_event 3 ∷ [])) _ (all_when g.clear _ (plain_fine 3 (omega arith)))
    (all_append (when g.components (component_events l)) _ (all_when g.components _ (components_fine l))
    (all_append (when g.connect (phase_event 2 ∷ [])) _ (all_when g.connect _ (plain_fine 2 (omega arith))) (all_when g.released _ (plain_fine 4 (omega arith))))))

from_fine : (call : ℕ) (cleared : Bool) (l : List Message) → AllFine (trace_from call cleared l)
unfolding trace_from message_events
from_fine call cleared [] = tt
from_fine call cleared (m ∷ l) =
    all_append (of_call call cleared m) (trace_from call (cleared_by call cleared m.octets) l)
    (all_when (eqb (reference m.octets) call) (message_events cleared m) (laid_fine (gives_by (type_of m.octets) m.network cleared) (components_of m.octets)))
    (from_fine call (cleared_by call cleared m.octets) l)

trace_fine : (l : List Message) → AllFine (trace_events l)
unfolding trace_events
trace_fine [] = tt
trace_fine (m ∷ l) = from_fine (reference m.octets) false (m ∷ l)

-- ---- the list in slices is the trace's

pub trace_back : (l : List Message) → events_of (rows_of (trace_events l)) (octets_of (trace_events l)) ≡ trace_events l
trace_back l = reads_back (trace_events l) (trace_fine l)

pub trace_adds_up : (l : List Message) → adds_up (rows_of (trace_events l)) (length (octets_of (trace_events l))) ≡ true
trace_adds_up l = adds_back (trace_events l) (trace_fine l)

-- ---- never more octets of components than of messages

in_octets_lem : (e : List ℕ) → length (joined (components_in e)) ≤ length e
in_octets_lem e =
    by_cases (eqb (tiles_of e).number 0)
    (λ z. rw (z, (tiles_are e (eqb-true (tiles_of e).number 0 z)).0) (omega (arith, ap length (tiles e (tiles_found e z)).0, length-drop 3 e)))
    (λ z. rw z (omega arith))

events_octets : (l : List (List ℕ)) → length (octets_of (component_events l)) ≡ length (joined l)
unfolding octets_of
events_octets [] = refl
events_octets (o ∷ l) = omega (arith, length-append o (octets_of (component_events l)), length-append o (joined l), events_octets l)

when_octets : (b : Bool) (l : List Given) → length (octets_of (when b l)) ≤ length (octets_of l)
unfolding octets_of
when_octets true l = omega arith
when_octets false l = omega arith

none_octets : (b : Bool) (g : Given) → g.octets ≡ [] → length (octets_of (when b (g ∷ []))) ≡ 0
unfolding octets_of
none_octets true g e = rw e refl
none_octets false g e = refl

octets_add : (l m : List Given) → length (octets_of (l ++ m)) ≡ length (octets_of l) + length (octets_of m)
octets_add l m = ap length (octets_append l m) ∙ length-append (octets_of l) (octets_of m)

message_octets : (cleared : Bool) (m : Message) → framed m.octets ≡ true → length (octets_of (message_events cleared m)) ≤ length m.octets
unfolding message_events
message_octets cleared m f =
    let s = m.octets in
    let g = gives_by (type_of s) m.network cleared in
    let c = components_of s in
    simp octets_add (omega (
      arith,
      none_octets g.setup (setup_by c) refl,
      none_octets g.clear (phase_event 3) refl,
      none_octets g.connect (phase_event 2) refl,
      none_octets g.released (phase_event 4) refl,
      when_octets g.components (component_events c),
      events_octets c,
      of_few (λ l. length (joined l)) refl joined_append in_octets_lem s f,
    ))

pub few_octets : (l : List Message) → all_framed l ≡ true → length (octets_of (trace_events l)) ≤ total l
unfolding octets_of
few_octets = trace_few (λ l. length (octets_of l)) refl octets_add message_octets
