-- The walk over a message's elements, and over the components of one of them.
use Rattle.prelude.proofs.Prelude.{◌≡◌, refl, sym, ap, ◌∙◌, ℕ, zero, suc, ◌+◌, ◌≤◌, ◌<◌, arith, Bool, true, false, List, [], ◌∷◌, ◌++◌, length, get_or, leb, eqb, leb-true, ne_eqb, eq-eqb}
use Rattle.coding.{specs.Reader.part, proofs.Basic.and_left, proofs.Basic.and_right}
use Rattle.phases.{specs.Phases.Given, proofs.Choice.by_number, proofs.Choice.never}
use Rattle.prelude.proofs.Ways.{by_cases}
use Rattle.element.specs.{Element.element_of, Cut.starts_of, Cut.parts_of}
use Rattle.element_pass.proofs.Going.{startless}
use Rattle.trace_framing.specs.Framing.{Message, message, element_end, elements_fit, Elements, type_place, type_of, headed, framed}
use Rattle.trace_messages.specs.Trace.{under_after, tiles_of, components_in, components_at, components_from, components_left, components_after, components_of, component_event, component_events, gives_by, laid_out, message_events, of_call}
use Rattle.trace_messages.specs.{Trace.{cleared_by, trace_from, all_framed}, declared.Gives.Gives}
use Rattle.trace_framing.proofs.Laws.{end_past, elements_on, headed_long}

pub events_append : (l m : List (List ℕ)) → component_events (l ++ m) ≡ component_events l ++ component_events m
events_append [] m = refl
events_append (o ∷ l) m = ap (λ (k : List Given). component_event o ∷ k) (events_append l m)

-- ---- elements: as many turns as octets and one are enough

turns_alike : (t u : ℕ) (s : List ℕ) (at under : ℕ) → length s < t + at → length s < u + at → elements_fit t s at ≡ true → components_from t s at under ≡ components_from u s at under
unfolding elements_fit components_from
turns_alike zero u s at under h k f = never f
turns_alike (suc t) zero s at under h k f =
    by_cases (eqb at (length s)) (λ e. rw e) (λ e. absurd (omega (arith, end_past s at, leb-true (element_end s at) (length s) (and_left (leb (element_end s at) (length s)) _ (rw e at f)))))
turns_alike (suc t) (suc u) s at under h k f =
    let p = end_past s at in
    by_cases (eqb at (length s)) (λ e. rw e)
    (λ e. rw (e, turns_alike t u s (element_end s at) (under_after under (get_or s at 0)) (omega (arith, p)) (omega (arith, p)) (and_right (leb (element_end s at) (length s)) _ (rw e at f))))

module _ {s : List ℕ} {at next : ℕ} (here : Elements s at) (more : at < length s) (is : next ≡ element_end s at) where
  pub components_more : (under : ℕ) → components_left s at under ≡ components_at s at under ++ components_left s next (under_after under (get_or s at 0))
  unfolding components_from
  components_more under =
      let apart : eqb at (length s) ≡ false = ne_eqb at (length s) (λ e. omega arith) in
      let u = under_after under (get_or s at 0) in
      let one : components_left s at under ≡ components_at s at under ++ components_from (length s) s next u = rw (apart, ← is) refl in
      one ∙ ap (λ (l : List (List ℕ)). components_at s at under ++ l)
      (sym (turns_alike (suc (length s)) (length s) s next u (omega arith) (omega (arith, end_past s at, is)) (elements_on here more is).fit))

  pub events_more : (under : ℕ) {v : ℕ} → v ≡ under_after under (get_or s at 0)
      → component_events (components_left s at under) ≡ component_events (components_at s at under) ++ component_events (components_left s next v)
  events_more under e = ap component_events (components_more under) ∙ events_append (components_at s at under) _ ∙ rw (← e) refl

pub from_over : (s : List ℕ) (at under : ℕ) → at ≤ length s → length s ≤ at → components_left s at under ≡ []
unfolding components_from
from_over s at under h l = let e : at ≡ length s = omega arith in rw (eq-eqb at (length s) e) refl

-- ---- an element that is no Facility element, or is under a shift, gives none

pub at_under : (s : List ℕ) (at under : ℕ) → (under ≡ 0 → ⊥) → components_at s at under ≡ []
at_under s at under n = rw (ne_eqb under 0 n) refl

pub at_other : (s : List ℕ) (at : ℕ) (under : ℕ) → under ≡ 0 → (get_or s at 0 ≡ 0x1c → ⊥) → components_at s at under ≡ []
at_other s at under z n = rw (z, ne_eqb (get_or s at 0) 0x1c n) refl

pub at_facility : (s : List ℕ) (at under next : ℕ) → under ≡ 0 → get_or s at 0 ≡ 0x1c → next ≡ element_end s at → components_at s at under ≡ components_in (part s at next)
at_facility s at under next z f e = rw (e, z, eq-eqb (get_or s at 0) 0x1c f) refl

-- ---- the components of an element

fifteen : ◌≡◌ {A = ℕ} 15 0 → ⊥
fifteen e = omega arith

-- an element that gives some is one that is accepted, with 91
pub tiles_are : (e : List ℕ) → (tiles_of e).number ≡ 0 → (tiles_of e ≡ element_of e) × (get_or e 2 0 ≡ 0x91)
unfolding tiles_of
tiles_are e z = by_number (get_or e 2 0) 0x91 (λ q. (rw (eq-eqb (get_or e 2 0) 0x91 q) refl, q)) (λ q. absurd (fifteen (rw q at z)))

-- with another profile octet than 91 there are none
pub in_other : (s : List ℕ) → eqb (get_or s 2 0) 0x91 ≡ false → components_in s ≡ []
unfolding tiles_of
in_other s e = rw e refl

-- with 91 the parts between its starts, of which a malformed one has none
pub in_parts : (s : List ℕ) → eqb (get_or s 2 0) 0x91 ≡ true → components_in s ≡ parts_of s (starts_of (element_of s))
unfolding tiles_of
in_parts s e = rw e (by_cases (eqb (element_of s).number 0) (λ t. rw t refl) (λ t. rw (t, startless s t) refl))

-- ---- a message

pub message_is : (s : List ℕ) (network cleared : Bool) {t start : ℕ} {g : Gives} → t ≡ type_of s → g ≡ gives_by t network cleared → start ≡ type_place s + 1
    → laid_out g (components_after s start) ≡ message_events cleared (message s network)
unfolding message_events components_of
message_is s network cleared a d e = rw (e, d, a) refl

pub message_fits : (s : List ℕ) → framed s ≡ true → {start : ℕ} → start ≡ type_place s + 1 → Elements s start
unfolding framed
message_fits s f e = record { place = omega (arith, (headed_long s (and_left (headed s) _ f)).1); fit = rw e (and_right (headed s) _ f) }

-- ---- a trace

pub trace_more : (call : ℕ) (cleared : Bool) {m : Message} {l all : List Message} → all ≡ m ∷ l → {r : Bool} → r ≡ cleared_by call cleared m.octets
    → trace_from call cleared all ≡ of_call call cleared m ++ trace_from call r l
unfolding trace_from
trace_more call cleared e q = rw (e, q) refl

pub framed_more : {m : Message} {l all : List Message} → all ≡ m ∷ l → all_framed all ≡ true → (framed m.octets ≡ true) × (all_framed l ≡ true)
framed_more {m} {l} e f = let g = rw e at f in (and_left (framed m.octets) (all_framed l) g, and_right (framed m.octets) (all_framed l) g)

pub trace_over : (call : ℕ) (cleared : Bool) {all : List Message} → all ≡ [] → trace_from call cleared all ≡ []
unfolding trace_from
trace_over call cleared e = rw e refl
