-- What holds of the events of every trace.
use Rattle.prelude.proofs.Prelude.{◌≡◌, refl, sym, ap, ◌∙◌, ℕ, zero, suc, ◌+◌, ◌-◌, ◌≤◌, ◌<◌, arith, Bool, true, false, not, ◌&&◌, and-false, cond, List, [], ◌∷◌, ◌++◌, append_assoc}
use Rattle.prelude.proofs.Prelude.{length, length-append, take, drop, get_or, leb, eqb}
use Rattle.prelude.proofs.{Prelude.{leb-true, eqb-true, length-drop, length-take-le, ◌/◌, ◌%◌}, Ways.by_cases}
use Rattle.coding.{specs.Reader.part, proofs.Basic.and_left, proofs.Basic.and_right, proofs.Parts.part_length}
use Rattle.phases.{specs.Phases.Given, specs.Phases.Connect, specs.Phases.Clear, specs.Phases.Released, proofs.Choice.by_number, proofs.Choice.never}
use Rattle.types.{specs.Frames.read_of, proofs.Faults.Whole, proofs.Tiles.tile_whole}
use Rattle.element.{specs.declared.Starts.Starts, specs.Element.element_of, specs.Cut.starts_of, specs.Cut.first_or, specs.Cut.parts_of, specs.Cut.joined, specs.Cut.Tiles, proofs.Tiles.tiles}
use Rattle.element_pass.proofs.Order.{Rises, starts_rise}
use Rattle.trace_framing.specs.Framing.{element_end, elements_fit, type_place, type_of, headed, framed, Message, first_unframed, message_length, lengths_fit, lengths_add_up, messages_from, messages_of, verdict_of}
use Rattle.trace_messages.specs.Trace.{is_clearing, is_request, first_request, reference, under_after, tiles_of, components_in, components_at, components_from, components_of, component_events, setup_by, phase_event, when}
use Rattle.trace_messages.specs.Trace.{message_events, of_call, cleared_by, all_framed, trace_from, trace_events}
use Rattle.trace_framing.proofs.Laws.{end_past, end_near, headed_long}
use Rattle.trace_messages.proofs.Walk.{tiles_are, at_under}

-- ---- the events of a cut trace are the first of those of the whole

from_prefix : (call : ℕ) (cleared : Bool) (l m : List Message) → (rest : List Given) × (trace_from call cleared (l ++ m) ≡ trace_from call cleared l ++ rest)
unfolding trace_from
from_prefix call cleared [] m = (trace_from call cleared m, refl)
from_prefix call cleared (x ∷ l) m =
    let t = from_prefix call (cleared_by call cleared x.octets) l m in
    (t.0, ap (λ (k : List Given). of_call call cleared x ++ k) t.1 ∙ sym (append_assoc (of_call call cleared x) (trace_from call (cleared_by call cleared x.octets) l) t.0))

pub cut_prefix : (l m : List Message) → (rest : List Given) × (trace_events (l ++ m) ≡ trace_events l ++ rest)
unfolding trace_events
cut_prefix [] m = (trace_events m, refl)
cut_prefix (x ∷ l) m = from_prefix (reference x.octets) false (x ∷ l) m

-- ---- of two requests for a case the first is taken

pub first_append : (case : ℕ) (l m : List (List ℕ)) → first_request case (l ++ m) ≡ cond (eqb (first_request case l).mark 0) (first_request case m) (first_request case l)
first_append case [] m = refl
first_append case (o ∷ l) m = by_cases (is_request case (read_of o)) (λ t. rw t refl) (λ t. rw t (first_append case l m))

-- ---- never more events than octets

pub parts_count : (s xs : List ℕ) → length (parts_of s xs) ≡ length xs
parts_count s [] = refl
parts_count s (a ∷ xs) = ap suc (parts_count s xs)

rises_count : (end : ℕ) (xs : List ℕ) → Rises end xs → length xs + first_or end xs ≤ end
rises_count end [] r = omega arith
rises_count end (a ∷ xs) r = omega (arith, r.0, rises_count end xs r.1)

pub tiles_found : (e : List ℕ) → eqb (tiles_of e).number 0 ≡ true → (element_of e).number ≡ 0
tiles_found e z = let q = eqb-true (tiles_of e).number 0 z in sym (ap (λ (x : Starts). x.number) (tiles_are e q).0) ∙ q

components_in_lem : (e : List ℕ) → length (components_in e) ≤ length e
components_in_lem e =
    by_cases (eqb (tiles_of e).number 0)
    (λ z. let t = starts_rise e (tiles_found e z) in
    rw z (omega (arith, parts_count e (starts_of (tiles_of e)), rises_count (length e) (starts_of (tiles_of e)) (rw (← (tiles_are e (eqb-true (tiles_of e).number 0 z)).0) at t).0)))
    (λ z. rw z (omega arith))

-- what adds up over lists of components, and of which no element has more than octets: a message has no more of it either
module _ (f : List (List ℕ) → ℕ) (none : f [] ≡ 0) (adds : (l m : List (List ℕ)) → f (l ++ m) ≡ f l + f m)
    (few : (e : List ℕ) → f (components_in e) ≤ length e) where
  at_few : (s : List ℕ) (at under : ℕ) → at ≤ element_end s at → element_end s at ≤ length s → f (components_at s at under) + at ≤ element_end s at
  at_few s at under h k =
      by_cases (eqb under 0 && eqb (get_or s at 0) 0x1c)
      (λ t. rw t (omega (arith, few (part s at (element_end s at)), part_length s at (element_end s at) k)))
      (λ t. rw (t, none) (omega arith))

  from_few : (turns : ℕ) (s : List ℕ) (at under : ℕ) → at ≤ length s → elements_fit turns s at ≡ true → f (components_from turns s at under) + at ≤ length s
  unfolding elements_fit components_from
  from_few zero s at under h e = never e
  from_few (suc turns) s at under h e =
      by_cases (eqb at (length s)) (λ z. rw (z, none) (omega arith))
      (λ z. let both = rw z at e in
      let inside = leb-true (element_end s at) (length s) (and_left (leb (element_end s at) (length s)) _ both) in
      let u = under_after under (get_or s at 0) in
      let rest = from_few turns s (element_end s at) u inside (and_right (leb (element_end s at) (length s)) _ both) in
      rw (z, adds) (omega (arith, rest, at_few s at under (omega (arith, end_past s at)) inside)))

  pub of_few : (s : List ℕ) → framed s ≡ true → f (components_of s) + 3 ≤ length s
  unfolding framed components_of
  of_few s e = omega (arith, from_few (suc (length s)) s (type_place s + 1) 0 (headed_long s (and_left (headed s) _ e)).1 (and_right (headed s) _ e))

pub events_count : (l : List (List ℕ)) → length (component_events l) ≡ length l
events_count [] = refl
events_count (o ∷ l) = ap suc (events_count l)

when_some : (b : Bool) (l : List Given) → length (when b l) ≤ length l
when_some true l = omega arith
when_some false l = omega arith

-- of the four that stand around the components, a message gives two at most
around : (t : ℕ) (network cleared : Bool) (g : Given) → length (when (not network && eqb t 0x05) (g ∷ [])) + length (when (is_clearing t && not cleared) (phase_event Clear ∷ []))
    + length (when (network && eqb t 0x07) (phase_event Connect ∷ [])) + length (when (eqb t 0x5a) (phase_event Released ∷ [])) ≤ 2
around t network cleared g =
    by_number t 0x05 (λ e. rw (e, and-false network) (omega (arith, when_some (not network && true) (g ∷ []))))
    (λ n. by_number t 0x07 (λ e. rw (e, and-false (not network)) (omega (arith, when_some (network && true) (phase_event Connect ∷ []))))
    (λ m. rw (n, m, and-false network, and-false (not network)) (omega (arith, when_some (is_clearing t && not cleared) (phase_event Clear ∷ []), when_some (eqb t 0x5a) (phase_event Released ∷ [])))))

message_count : (cleared : Bool) (m : Message) → framed m.octets ≡ true → length (message_events cleared m) ≤ length m.octets
unfolding message_events
message_count cleared m e =
    let s = m.octets in
    let c = components_of s in
    let few = of_few length refl length-append components_in_lem s e in
    simp length-append (omega (arith, few, around (type_of s) m.network cleared (setup_by c), when_some m.network (component_events c), events_count c))

abbrev pub total : List Message → ℕ
total [] = 0
total (m ∷ l) = length m.octets + total l

-- what adds up over lists of events, and of which no message gives more than octets: a trace gives no more of it either
module _ (f : List Given → ℕ) (none : f [] ≡ 0) (adds : (l m : List Given) → f (l ++ m) ≡ f l + f m)
    (few : (cleared : Bool) (m : Message) → framed m.octets ≡ true → f (message_events cleared m) ≤ length m.octets) where
  call_few : (call : ℕ) (cleared : Bool) (m : Message) → framed m.octets ≡ true → f (of_call call cleared m) ≤ length m.octets
  call_few call cleared m e = by_cases (eqb (reference m.octets) call) (λ t. rw t (few cleared m e)) (λ t. rw (t, none) (omega arith))

  calls_few : (call : ℕ) (cleared : Bool) (l : List Message) → all_framed l ≡ true → f (trace_from call cleared l) ≤ total l
  unfolding trace_from
  calls_few call cleared [] e = omega (arith, none)
  calls_few call cleared (m ∷ l) e =
      let here = call_few call cleared m (and_left (framed m.octets) (all_framed l) e) in
      let rest = calls_few call (cleared_by call cleared m.octets) l (and_right (framed m.octets) (all_framed l) e) in
      rw adds (omega (arith, here, rest))

  pub trace_few : (l : List Message) → all_framed l ≡ true → f (trace_events l) ≤ total l
  unfolding trace_events
  trace_few [] e = omega (arith, none)
  trace_few (m ∷ l) e = calls_few (reference m.octets) false (m ∷ l) e

pub few_events : (l : List Message) → all_framed l ≡ true → length (trace_events l) ≤ total l
few_events = trace_few length refl length-append message_count

-- ---- a component of a trace is never refused 1, 3 or 5

abbrev pub Wholes : List (List ℕ) → Type 0
Wholes [] = Unit {0}
Wholes (o ∷ l) = Whole (read_of o).number × Wholes l

wholes_append : (l m : List (List ℕ)) → Wholes l → Wholes m → Wholes (l ++ m)
wholes_append [] m v w = w
wholes_append (o ∷ l) m v w = (v.0, wholes_append l m v.1 w)

tiles_whole : (ps : List (List ℕ)) → Tiles ps → length (joined ps) ≤ 254 → Wholes ps
tiles_whole [] t h = tt
tiles_whole (p ∷ ps) t h =
    let n = length-append p (joined ps) in
    (tile_whole p t.0.0 t.0.1 t.0.2 (omega arith), tiles_whole ps t.1 (omega arith))

in_whole : (e : List ℕ) → length e ≤ 257 → Wholes (components_in e)
in_whole e h =
    by_cases (eqb (tiles_of e).number 0)
    (λ z. let t = tiles e (tiles_found e z) in
    rw (z, (tiles_are e (eqb-true (tiles_of e).number 0 z)).0) (tiles_whole (parts_of e (starts_of (element_of e))) t.1 (omega (arith, ap length t.0, length-drop 3 e))))
    (λ z. rw z tt)

at_whole : (s : List ℕ) → ((i : ℕ) → get_or s i 0 < 256) → (at under : ℕ) → element_end s at ≤ length s → Wholes (components_at s at under)
at_whole s small at under h =
    by_cases (eqb under 0 && eqb (get_or s at 0) 0x1c)
    (λ t. rw t (in_whole (part s at (element_end s at)) (omega (arith, part_length s at (element_end s at) h, end_near s at (small (at + 1))))))
    (λ t. rw t tt)

from_whole : (s : List ℕ) → ((i : ℕ) → get_or s i 0 < 256) → (turns at under : ℕ) → elements_fit turns s at ≡ true → Wholes (components_from turns s at under)
unfolding elements_fit components_from
from_whole s small zero at under f = tt
from_whole s small (suc turns) at under f =
    by_cases (eqb at (length s)) (λ e. rw e tt)
    (λ e. let both = rw e at f in
    rw e (wholes_append (components_at s at under) _ (at_whole s small at under (leb-true (element_end s at) (length s) (and_left (leb (element_end s at) (length s)) _ both)))
    (from_whole s small turns (element_end s at) (under_after under (get_or s at 0)) (and_right (leb (element_end s at) (length s)) _ both))))

pub components_whole : (s : List ℕ) → ((i : ℕ) → get_or s i 0 < 256) → framed s ≡ true → Wholes (components_of s)
unfolding framed components_of
components_whole s small f = from_whole s small (suc (length s)) (type_place s + 1) 0 (and_right (headed s) _ f)

pub joined_append : (l m : List (List ℕ)) → length (joined (l ++ m)) ≡ length (joined l) + length (joined m)
joined_append [] m = omega arith
joined_append (o ∷ l) m = omega (arith, length-append o (joined (l ++ m)), length-append o (joined l), joined_append l m)

-- ---- an element with 9F, and one under a shift, gives none

pub other_profile : (e : List ℕ) → get_or e 2 0 ≡ 0x9f → components_in e ≡ []
unfolding tiles_of
other_profile e q = rw q refl

pub under_shift : (s : List ℕ) (at under : ℕ) → (under ≡ 0 → ⊥) → components_at s at under ≡ []
under_shift = at_under

-- ---- a trace that is not refused

framed_all : (n : ℕ) (l : List Message) → 1 ≤ n → first_unframed n l ≡ 0 → all_framed l ≡ true
framed_all n [] h e = refl
framed_all n (m ∷ l) h e =
    by_cases (framed m.octets) (λ f. rw f (framed_all (n + 1) l (omega arith) (rw f at e)))
    (λ f. let z : n ≡ 0 = rw f at e in absurd (omega arith))

pub not_refused : (pairs octets : List ℕ) → (verdict_of pairs octets).number ≡ 0 → (lengths_add_up pairs (length octets) ≡ true) × (all_framed (messages_of pairs octets) ≡ true)
unfolding verdict_of
not_refused pairs octets e =
    by_cases (lengths_add_up pairs (length octets))
    (λ a. (
      a,
      by_number (first_unframed 1 (messages_of pairs octets)) 0 (λ z. framed_all 1 (messages_of pairs octets) (omega arith) z)
          (λ z. let y : ◌≡◌ {A = ℕ} 49 0 = rw (a, z) at e in absurd (omega arith)),
    ))
    (λ a. let y : ◌≡◌ {A = ℕ} 48 0 = rw a at e in absurd (omega arith))

-- the messages have all the octets
from_total : (pairs octets : List ℕ) (n i at : ℕ) → at ≤ length octets → lengths_fit pairs i n (length octets - at) ≡ true → total (messages_from pairs octets i n at) ≡ length octets - at
unfolding lengths_fit messages_from
from_total pairs octets zero i at h f = sym (eqb-true (length octets - at) 0 f)
from_total pairs octets (suc n) i at h f =
    let c = message_length pairs i in
    let k : c ≤ length octets - at = leb-true c (length octets - at) (and_left (leb c (length octets - at)) _ f) in
    let m : length octets - at - c ≡ length octets - (at + c) = omega arith in
    let rest = from_total pairs octets n (i + 1) (at + c) (omega arith) (ap (λ (j : ℕ). lengths_fit pairs (i + 1) n j) (sym m) ∙ and_right (leb c (length octets - at)) _ f) in
    let size : length (take c (drop at octets)) ≡ c = length-take-le c (drop at octets) (omega (arith, length-drop at octets)) in
    omega (arith, rest, size)

pub total_is : (pairs octets : List ℕ) → lengths_add_up pairs (length octets) ≡ true → total (messages_of pairs octets) ≡ length octets
unfolding lengths_add_up messages_of
total_is pairs octets e =
    let n : length octets - 0 ≡ length octets = omega arith in
    from_total pairs octets (length pairs / 2) 0 0 (omega arith) (rw n (and_right (eqb (length pairs % 2) 0) _ e)) ∙ n
