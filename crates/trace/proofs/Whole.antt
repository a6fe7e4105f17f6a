-- The list of a whole trace: the call's reference, the room that the list needs, and what the slices then hold.
use Rattle.prelude.proofs.Prelude.{◌≡◌, refl, sym, ap, ◌∙◌, ℕ, suc, ◌-◌, ◌*◌, ◌/◌, ◌≤◌, ◌<◌, arith, zero-add, Bool, true, false, cond, List, ◌++◌, length, get_or, take}
use Rattle.prelude.proofs.Prelude.{drop, sets-eq, eqb, eq-eqb, ne_eqb, le-leb, lt-leb}
use Rattle.phases.specs.Phases.{Given}
use Rattle.coding.{specs.inner.Written.Wrote, proofs.Basic.and_left}
use Rattle.events.{specs.Laid.rows_of, specs.Laid.octets_of, proofs.Laid.rows_count}
use Rattle.trace_framing.specs.{declared.TraceVerdict.TraceVerdict, Framing.framed, Framing.lengths_add_up, Framing.messages_from, Framing.messages_of, Framing.verdict_of}
use Rattle.trace_framing.proofs.Laws.{passing_starts, ends_inside}
use Rattle.trace_messages.{specs.Trace.{reference, all_framed, trace_from, trace_events}, proofs.Theorems.{total_is, few_events}}
use Rattle.trace.specs.{declared.Put.Put, declared.Laid.Laid, Into.events_in, Into.fits_in, Into.laid, Into.laid_of, Into.rows_left, Into.octets_left, inner.Putting.Puts}
use Rattle.trace.specs.{inner.Putting.Rooms, inner.Putting.Lays}
use Rattle.trace.proofs.Bounds.{few_octets}

-- ---- the call's reference

-- a trace without a message gives nothing
pub no_call : (pairs octets : List ℕ) (r : ℕ) → length pairs / 2 ≡ 0 → trace_from r false (messages_of pairs octets) ≡ events_in pairs octets
unfolding messages_of messages_from trace_from trace_events
no_call pairs octets r z = rw z refl

module _ (pairs octets : List ℕ) (adds : lengths_add_up pairs (length octets) ≡ true) (all : all_framed (messages_of pairs octets) ≡ true)
    (some : 2 ≤ length pairs) {c : ℕ} (is : c ≡ get_or pairs 0 0) where
  one_more_lem : length pairs / 2 ≡ suc (length pairs / 2 - 1)
  one_more_lem = omega (arith, some)

  size_is : c - 0 ≡ get_or pairs 0 0
  size_is = omega (arith, is)

  pub first_inside : c ≤ length octets
  first_inside = omega (arith, ends_inside (passing_starts pairs octets adds) (omega (arith, some)) is)

  pub first_framed : framed (take (c - 0) (drop 0 octets)) ≡ true
  unfolding messages_of messages_from
  first_framed = rw size_is (and_left (framed (take (get_or pairs 0 0) (drop 0 octets))) _ (rw one_more_lem at all))

  pub first_call : {r : ℕ} → r ≡ reference (take (c - 0) (drop 0 octets)) → trace_from r false (messages_of pairs octets) ≡ events_in pairs octets
  unfolding messages_of messages_from trace_events
  first_call e = rw (one_more_lem, e, size_is) refl

-- ---- room

module _ (pairs octets : List ℕ) (adds : lengths_add_up pairs (length octets) ≡ true) (all : all_framed (messages_of pairs octets) ≡ true) where
  pub events_few : length (events_in pairs octets) ≤ length octets
  events_few = omega (arith, total_is pairs octets adds, few_events (messages_of pairs octets) all)

  pub octets_few : length (octets_of (events_in pairs octets)) ≤ length octets
  octets_few = omega (arith, total_is pairs octets adds, few_octets (messages_of pairs octets) all)

module _ (rows out : List ℕ) (l : List Given) (n : ℕ) where
  lays_none : fits_in n (length rows) (length out) ≡ false → Lays l n rows rows out out (laid 12 0 0 0)
  lays_none z = record { answer = sym (rw z refl); in_rows = sym (rw z refl); in_out = sym (rw z refl) }

  pub too_many : length rows / 6 < n → Lays l n rows rows out out (laid 12 0 0 0)
  too_many h = lays_none (rw (lt-leb (n * 6) (length rows) (omega arith)) refl)

  module _ (some : n ≤ length rows / 6) where
    pub too_long : length out < n → Lays l n rows rows out out (laid 12 0 0 0)
    too_long h = lays_none (rw (le-leb (n * 6) (length rows) (omega arith), lt-leb n (length out) h) refl)

    module _ (few : n ≤ length out) (events : length l ≤ n) (octets : length (octets_of l) ≤ n) where
      rows_in : length (rows_of l) ≤ length rows
      rows_in = omega (arith, rows_count l)

      pub room_for : Rooms rows out (record { rows = 0; octets = 0 }) l
      room_for = record { for_rows = record { fits = omega (arith, rows_in) }; for_out = record { fits = omega arith } }

      enough : fits_in n (length rows) (length out) ≡ true
      enough = rw (le-leb (n * 6) (length rows) (omega arith), le-leb n (length out) few) refl

      in_front : (xs before after : List ℕ) {q : ℕ} → length xs ≤ length before → Wrote before after 0 xs q → after ≡ xs ++ drop (length xs) before
      in_front xs before after h w = w.stored ∙ sets-eq xs before 0 (omega (arith, h)) ∙ ap (λ (j : ℕ). xs ++ drop j before) (zero-add (length xs))

      pub lays : (rows' out' : List ℕ) (q : Put) → Puts rows rows' out out' (record { rows = 0; octets = 0 }) l q → Lays l n rows rows' out out' (laid 0 0 (q.rows / 6) q.octets)
      lays rows' out' q p =
          let k : q.rows / 6 ≡ length l = omega (arith, p.in_rows.place, rows_count l) in
          let m : q.octets ≡ length (octets_of l) = omega (arith, p.in_out.place) in record {
            answer = rw (k, m) (sym (rw enough refl));
            in_rows = rw enough (in_front (rows_of l) rows rows' rows_in p.in_rows);
            in_out = rw enough (in_front (octets_of l) out out' (omega arith) p.in_out);
          }

-- ---- the answer

-- what is answered, and what the slices then hold
abbrev Answers : (pairs octets rows rows' out out' : List ℕ) → Laid → Type 0
Answers pairs octets rows rows' out out' r =
    (r ≡ laid_of pairs octets (length rows) (length out)) × ((rows' ≡ rows_left pairs octets rows out) × (out' ≡ octets_left pairs octets rows out))

module _ (pairs octets rows out : List ℕ) {v : TraceVerdict} (is : v ≡ verdict_of pairs octets) where
  pub refused : (v.number ≡ 0 → ⊥) → Answers pairs octets rows rows out out (laid v.number v.message 0 0)
  unfolding laid_of rows_left octets_left
  refused n =
      let z = ne_eqb (verdict_of pairs octets).number 0 (λ e. n (ap (λ (x : TraceVerdict). x.number) is ∙ e)) in
      (sym (rw (z, ← is) refl), (sym (rw (z, z) refl), sym (rw (z, z) refl)))

  room_zero : (b : Bool) (l : List Given) → eqb (cond b (laid 0 0 (length l) (length (octets_of l))) (laid 12 0 0 0)).number 0 ≡ b
  room_zero true l = refl
  room_zero false l = refl

  pub accepted : v.number ≡ 0 → {rows' out' : List ℕ} {r : Laid} → Lays (events_in pairs octets) (length octets) rows rows' out out' r
      → Answers pairs octets rows rows' out out' r
  unfolding laid_of rows_left octets_left
  accepted n w =
      let z = eq-eqb (verdict_of pairs octets).number 0 (sym (ap (λ (x : TraceVerdict). x.number) is) ∙ n) in
      let b = room_zero (fits_in (length octets) (length rows) (length out)) (events_in pairs octets) in
      (w.answer ∙ sym (rw z refl), (w.in_rows ∙ sym (rw (z, b) refl), w.in_out ∙ sym (rw (z, b) refl)))
