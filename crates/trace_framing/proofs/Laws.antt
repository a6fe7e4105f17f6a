-- One element more, one message more.
use Rattle.prelude.proofs.Prelude.{◌≡◌, refl, sym, ap, ◌∙◌, ℕ, zero, suc, ◌+◌, ◌-◌, ◌/◌, ◌%◌, ◌≤◌, ◌<◌, sub-zero, arith, true, false, ◌&&◌, List, [], ◌∷◌, length}
use Rattle.prelude.proofs.Prelude.{take, drop, get_or, leb, eqb}
use Rattle.prelude.proofs.{Prelude.{le-leb, lt-leb, leb-true, eq-eqb, ne_eqb, List·getD-eq-default}, Ways.by_cases}
use Rattle.coding.proofs.Basic.{and_left, and_right}
use Rattle.std.specs.Prelude.{None, Some}
use Rattle.trace_framing.specs.Framing.{numbered, framed_verdict, judged_so}
use Rattle.trace_framing.specs.Framing.{element_end, elements_fit, fit_from, Elements, headed, framed, message, message_length, by_network, lengths_fit, lengths_add_up, messages_from, messages_of, messages_left, first_unframed, Passing}

-- ---- elements

pub end_past : (s : List ℕ) (at : ℕ) → at + 1 ≤ element_end s at
end_past s at = by_cases (leb 0x80 (get_or s at 0)) (λ t. rw t (omega arith)) (λ t. rw t (omega arith))

-- as many turns as octets and one are enough
turns_alike : (t u : ℕ) (s : List ℕ) (at : ℕ) → length s < t + at → length s < u + at → at ≤ length s → elements_fit t s at ≡ elements_fit u s at
unfolding elements_fit
turns_alike zero u s at h k l = absurd (omega arith)
turns_alike (suc t) zero s at h k l = absurd (omega arith)
turns_alike (suc t) (suc u) s at h k l =
    let p = end_past s at in
    by_cases (eqb at (length s)) (λ e. rw e)
    (λ e. by_cases (leb (element_end s at) (length s))
    (λ f. rw (e, f) (turns_alike t u s (element_end s at) (omega (arith, p)) (omega (arith, p)) (leb-true _ _ f)))
    (λ f. rw (e, f)))

module _ (s : List ℕ) (at : ℕ) (more : at < length s) {next : ℕ} (is : next ≡ element_end s at) where
  apart : eqb at (length s) ≡ false
  apart = ne_eqb at (length s) (λ e. omega arith)

  pub fit_more : next ≤ length s → fit_from s at ≡ fit_from s next
  unfolding elements_fit
  fit_more h =
      let p = end_past s at in
      let one : fit_from s at ≡ elements_fit (length s) s next = rw (apart, ← is, le-leb next (length s) h) refl in
      one ∙ turns_alike (length s) (suc (length s)) s next (omega (arith, p, is)) (omega arith) h

  pub fit_short : length s < next → fit_from s at ≡ false
  unfolding elements_fit
  fit_short h = rw (apart, ← is, lt-leb next (length s) h) refl

-- the element at a place ends inside, and elements stand after it
pub elements_on : {s : List ℕ} {at next : ℕ} → Elements s at → at < length s → next ≡ element_end s at → Elements s next
unfolding elements_fit
elements_on {s} {at} {next} here more is =
    let more_here : eqb at (length s) ≡ false = ne_eqb at (length s) (λ e. omega arith) in
    let inside = leb-true (element_end s at) (length s) (and_left (leb (element_end s at) (length s)) _ (rw more_here at here.fit)) in
    record { place = omega (arith, is, inside); fit = sym (fit_more s at more is (omega (arith, is, inside))) ∙ here.fit }

pub fit_end : (s : List ℕ) (at : ℕ) → at ≤ length s → length s ≤ at → fit_from s at ≡ true
unfolding elements_fit
fit_end s at h l = let e : at ≡ length s = omega arith in rw (eq-eqb at (length s) e) refl

-- past the last octet there is none, which the definitions take for 0
pub past_end : (s : List ℕ) (at : ℕ) → length s ≤ at → get_or s at 0 ≡ 0
past_end s at h = List·getD-eq-default s 0 h

-- ---- lengths

left_more : (i n : ℕ) → i < n → n - i ≡ suc (n - (i + 1))
left_more i n h = omega arith

left_none : (i n : ℕ) → n ≤ i → n - i ≡ zero
left_none i n h = omega arith

module _ (pairs : List ℕ) (i n left : ℕ) where
  lengths_step : i < n → lengths_fit pairs i (n - i) left ≡ (leb (message_length pairs i) left && lengths_fit pairs (i + 1) (n - (i + 1)) (left - message_length pairs i))
  unfolding lengths_fit
  lengths_step h = rw (left_more i n h) refl

  module _ (c : ℕ) (e : c ≡ message_length pairs i) (h : i < n) where
    pub lengths_more : c ≤ left → lengths_fit pairs i (n - i) left ≡ lengths_fit pairs (i + 1) (n - (i + 1)) (left - c)
    lengths_more k = lengths_step h ∙ rw (← e, le-leb c left k)

    pub lengths_short : left < c → lengths_fit pairs i (n - i) left ≡ false
    lengths_short k = lengths_step h ∙ rw (← e, lt-leb c left k)

  pub lengths_end : n ≤ i → lengths_fit pairs i (n - i) left ≡ eqb left 0
  unfolding lengths_fit
  lengths_end h = rw (left_none i n h) refl

  lengths_one : i < n → lengths_fit pairs i (n - i) left ≡ true → message_length pairs i ≤ left
  lengths_one h e = leb-true (message_length pairs i) left (and_left (leb (message_length pairs i) left) _ (sym (lengths_step h) ∙ e))

pub lengths_start : (pairs : List ℕ) (n left : ℕ) → lengths_fit pairs 0 (n - 0) left ≡ lengths_fit pairs 0 n left
lengths_start pairs n left = ap (λ (k : ℕ). lengths_fit pairs 0 k left) (sub-zero n)

-- ---- a loop over the messages

module _ (pairs octets : List ℕ) where
  pub passing_starts : lengths_add_up pairs (length octets) ≡ true → Passing pairs octets 0 0
  unfolding lengths_add_up
  passing_starts e = record {
    row = omega arith;
    place = omega arith;
    rest = ap (λ (m : ℕ). lengths_fit pairs 0 (length pairs / 2 - 0) m) (sub-zero (length octets)) ∙ lengths_start pairs (length pairs / 2) (length octets) ∙ and_right (eqb (length pairs % 2) 0) _ e;
  }

  pub from_start : messages_left pairs octets 0 0 ≡ messages_of pairs octets
  unfolding messages_of
  from_start = ap (λ (k : ℕ). messages_from pairs octets 0 k 0) (sub-zero (length pairs / 2))

  pub nothing_left : (i at : ℕ) → length pairs / 2 ≤ i → messages_left pairs octets i at ≡ []
  unfolding messages_from
  nothing_left i at h = rw (left_none i (length pairs / 2) h) refl

module _ {pairs octets : List ℕ} {i at : ℕ} (going : Passing pairs octets i at) (more : i < length pairs / 2) where
  inside : message_length pairs i ≤ length octets - at
  inside = lengths_one pairs i (length pairs / 2) (length octets - at) more going.rest

  module _ {c : ℕ} (is : c ≡ message_length pairs i) where
    pub ends_inside : at + c ≤ length octets
    ends_inside = omega (arith, going.place, inside)

    pub passes_on : Passing pairs octets (i + 1) (at + c)
    passes_on =
        let k = inside in
        let m : length octets - (at + c) ≡ length octets - at - message_length pairs i = omega arith in record {
          row = omega arith;
          place = ends_inside;
          rest = ap (λ (j : ℕ). lengths_fit pairs (i + 1) (length pairs / 2 - (i + 1)) j) m
              ∙ sym (lengths_more pairs i (length pairs / 2) (length octets - at) _ refl more k) ∙ going.rest;
        }

    pub next_message : messages_left pairs octets i at
        ≡ message (take (at + c - at) (drop at octets)) (by_network pairs i) ∷ messages_left pairs octets (i + 1) (at + c)
    unfolding messages_from
    next_message =
        let e : at + c - at ≡ message_length pairs i = omega arith in
        rw (left_more i (length pairs / 2) more, e, is) refl

    -- the first that is not framed
    pub unframed_here : framed (take (at + c - at) (drop at octets)) ≡ false → i + 1 ≡ first_unframed (i + 1) (messages_left pairs octets i at)
    unframed_here q = sym (ap (first_unframed (i + 1)) next_message ∙ rw q refl)

    pub framed_on : framed (take (at + c - at) (drop at octets)) ≡ true
        → first_unframed (i + 1 + 1) (messages_left pairs octets (i + 1) (at + c)) ≡ first_unframed (i + 1) (messages_left pairs octets i at)
    framed_on q = sym (ap (first_unframed (i + 1)) next_message ∙ rw q refl)

pub headed_long : (s : List ℕ) → headed s ≡ true → (3 ≤ length s) × (2 + get_or s 1 0 + 1 ≤ length s)
headed_long s e =
    let a = and_right (leb 3 (length s)) _ e in
    let b = and_right (eqb (get_or s 0 0) 0x08) _ a in
    (leb-true _ _ (and_left (leb 3 (length s)) _ e), leb-true (2 + get_or s 1 0 + 1) (length s) (and_right (leb (get_or s 1 0) 2) _ b))

pub end_near : (s : List ℕ) (at : ℕ) → get_or s (at + 1) 0 < 256 → element_end s at ≤ at + 257
end_near s at h = by_cases (leb 0x80 (get_or s at 0)) (λ t. rw t (omega arith)) (λ t. rw t (omega arith))

-- a framed message: its reference octets and its type are there
pub framed_head : (s : List ℕ) → framed s ≡ true → (3 ≤ length s) × (2 + get_or s 1 0 + 1 ≤ length s) × (get_or s 1 0 ≤ 2)
unfolding framed
framed_head s f =
    let h = and_left (headed s) _ f in
    let b = and_right (eqb (get_or s 0 0) 0x08) _ (and_right (leb 3 (length s)) _ h) in
    ((headed_long s h).0, (headed_long s h).1, leb-true (get_or s 1 0) 2 (and_left (leb (get_or s 1 0) 2) _ b))

-- ---- the first message that is not framed

pub numbered_some : {n : ℕ} (i : ℕ) → i + 1 ≡ n → Some (i + 1) ≡ numbered n
numbered_some i e = rw (← e, ne_eqb (i + 1) 0 (λ x. omega arith))

pub numbered_none : {n : ℕ} → n ≡ 0 → None ≡ numbered n
numbered_none e = rw e

pub verdict_none : (n : ℕ) → None ≡ numbered n → framed_verdict n ≡ judged_so 0 0
verdict_none n e = by_cases (eqb n 0) (λ q. rw q) (λ q. let z : None ≡ Some n = rw q at e in absurd cc)

pub verdict_some : (n m : ℕ) → Some m ≡ numbered n → framed_verdict n ≡ judged_so 49 m
verdict_some n m e = by_cases (eqb n 0) (λ q. let z : Some m ≡ None = rw q at e in absurd cc) (λ q. let z : Some m ≡ Some n = rw q at e in let k : n ≡ m = cc in rw q (ap (judged_so 49) k))
