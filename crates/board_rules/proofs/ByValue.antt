-- The functions by value, and that changing one slot by them is the table's step.
use Rattle.prelude.proofs.Prelude.{ℕ, ◌≡◌, refl, sym, ap, ◌∙◌, List, true, not, eqb, eq-eqb, ne_eqb, eqb-true, arith, length, get_or, set, ◌⊎◌, inl, inr}
use Rattle.std.proofs.Common.{Some, None}
use lib.Seq.{set-get_or}
use Rattle.board_rules.specs.declared.Seat.TheVariants.{Free, Own, Refused}
use Rattle.phases.specs.{Phases.Setup, Phases.Ended, Phases.no_service, Phases.clashes, Phases.allowed, inner.ByNumber.moving_of}
use Rattle.phases.specs.{declared.Event.Event, declared.Outcome.Outcome, declared.Moving.Moving}
use Rattle.prelude.proofs.Ways.{by_cases}
use Rattle.coding.specs.Reader.{among}
use Rattle.account.specs.{declared.Account.Account, declared.Stepped.Stepped, History.fresh, History.fresh_status, History.stepped, Step.changed, Step.stepped_of}
use Rattle.step_rules.proofs.Changes.{phase_change}
use Rattle.board_rules.specs.declared.{Board.Board, Seat.Seat, Held.Held, Freed.Freed}
use Rattle.board_rules.specs.Board.{key_of, lowest, held_in, is_held, call_of, with_slot, Boarded, boarded, admitted, event_on, Emptied, emptied, uncollected, collect_on, view_on}
use Rattle.board_rules.specs.inner.ByValue.{slot_with, free_seat, seat_of, begun, taken_up, free_of}
use Rattle.board_rules.proofs.{Slots.{found, free_fewer, none_free, slot_some, slot_none}}

-- what was in a slot is put back
back : (b : Board) (i : ℕ) → with_slot b i (get_or b.keys i 0) (get_or b.calls i fresh) ≡ b
back b i =
    ap (λ (l : List ℕ). record { keys = l; calls = set b.calls i (get_or b.calls i fresh) }) (set-get_or b.keys i 0)
    ∙ ap (λ (l : List Account). record { keys = b.keys; calls = l }) (set-get_or b.calls i fresh)

-- 64 slots are held where none is free
full_free : (l : List ℕ) → length l ≡ 64 → eqb (held_in l) 64 ≡ not (among 0 l)
full_free l n = by_cases (among 0 l)
    (λ q. rw q (ne_eqb (held_in l) 64 (λ e. let z = free_fewer l q in omega (arith, z, n, e))))
    (λ q. rw q (eq-eqb (held_in l) 64 (none_free l q ∙ n)))

-- ---- a Setup on a fresh account changes the status alone, and its number is 13 or 0

module _ (e : Event) (k : eqb e.kind Setup ≡ true) where
  abbrev moved : Moving
  moved = moving_of fresh_status e

  setup_step : (o : List ℕ) → stepped_of fresh e o ≡ stepped moved.outcome (begun moved.status)
  unfolding stepped_of
  setup_step o = sym (ap (changed fresh) (phase_change fresh e o (λ c. let z = eqb-true e.kind Setup k in omega (arith, z, c))))

  setup_ways : (moved.outcome ≡ no_service 13) ⊎ (moved.outcome ≡ no_service 0)
  unfolding moving_of allowed
  setup_ways = rw (eqb-true e.kind Setup k) (by_cases (clashes e) (λ t. inl (rw t refl)) (λ t. inr (rw t refl)))

-- ---- an event

module _ (b : Board) (r : ℕ) (e : Event) (o : List ℕ) where
  -- a Setup in a slot
  abbrev begun_at : ℕ → Boarded
  begun_at i = let w : Held = taken_up r e in boarded w.outcome (with_slot b i w.key w.account)

  -- another event at the slot that is held
  abbrev stepped_at : ℕ → Boarded
  stepped_at i = let w : Stepped = stepped_of (get_or b.calls i fresh) e o in boarded w.outcome (record { keys = b.keys; calls = set b.calls i w.account })

  stepping : (i : ℕ) → get_or b.keys i 0 ≡ key_of r
      → stepped_at i ≡ boarded (stepped_of (get_or b.calls i fresh) e o).outcome (with_slot b i (key_of r) (stepped_of (get_or b.calls i fresh) e o).account)
  stepping i k =
      ap (λ (l : List ℕ). boarded (stepped_of (get_or b.calls i fresh) e o).outcome (record { keys = l; calls = set b.calls i (stepped_of (get_or b.calls i fresh) e o).account }))
      (sym (set-get_or b.keys i 0) ∙ ap (set b.keys i) k)

  -- by the seat
  abbrev went : Seat → Boarded
  went (Free i) = begun_at i
  went (Own i) = stepped_at i
  went (Refused n) = boarded (no_service n) b

  -- a Setup with a free slot
  abbrev new : Account
  new = begun (moving_of fresh_status e).status

  abbrev admitted_by : Outcome → Boarded
  admitted_by u = admitted b r (stepped u new)

  setup_seat : eqb e.kind Setup ≡ true → went (free_seat (lowest 0 b.keys) (moving_of fresh_status e).outcome.number) ≡ admitted b r (stepped_of fresh e o)
  unfolding taken_up
  setup_seat k = by_way (setup_ways e k) ∙ sym (ap (admitted b r) (setup_step e k o))
    where
      by_way : ((moving_of fresh_status e).outcome ≡ no_service 13) ⊎ ((moving_of fresh_status e).outcome ≡ no_service 0)
          → went (free_seat (lowest 0 b.keys) (moving_of fresh_status e).outcome.number) ≡ admitted_by (moving_of fresh_status e).outcome
      by_way (inl w) = ap (λ (u : Outcome). went (free_seat (lowest 0 b.keys) u.number)) w ∙ sym (ap admitted_by w)
      by_way (inr w) =
          ap (λ (u : Outcome). went (free_seat (lowest 0 b.keys) u.number)) w
          ∙ ap (λ (u : Outcome). boarded u (with_slot b (lowest 0 b.keys) (key_of r) new)) w ∙ sym (ap admitted_by w)

  thin_seat : length b.keys ≡ 64 → went (seat_of b.keys r e) ≡ event_on b r e o
  unfolding seat_of event_on
  thin_seat n =
      by_cases (eqb e.kind Setup)
      (λ k. by_cases (is_held r b)
      (λ h. rw (k, h) refl)
      (λ h. by_cases (among 0 b.keys)
      (λ f. rw (k, h, f, full_free b.keys n, f) (setup_seat k))
      (λ f. rw (k, h, f, full_free b.keys n, f) refl)))
      (λ k. by_cases (is_held r b)
      (λ h. rw (k, h) (stepping (lowest (key_of r) b.keys) (found (key_of r) b.keys h).1))
      (λ h. rw (k, h) refl))

  module _ (n : length b.keys ≡ 64) {s : Seat} (p : s ≡ seat_of b.keys r e) where
    pub lent_thin : (i : ℕ) → s ≡ Own i → (w : Stepped) → w ≡ stepped_of (get_or b.calls i fresh) e o
        → boarded w.outcome (record { keys = b.keys; calls = set b.calls i w.account }) ≡ event_on b r e o
    lent_thin i m w q =
        ap (λ (u : Stepped). boarded u.outcome (record { keys = b.keys; calls = set b.calls i u.account })) q ∙ ap went (sym m ∙ p) ∙ thin_seat n

    pub refused_thin : (k : ℕ) → s ≡ Refused k → boarded (no_service k) b ≡ event_on b r e o
    refused_thin k m = ap went (sym m ∙ p) ∙ thin_seat n

    pub taken_thin : (i : ℕ) → s ≡ Free i → (w : Held) → w ≡ taken_up r e → boarded w.outcome (with_slot b i w.key w.account) ≡ event_on b r e o
    taken_thin i m w q = ap (λ (u : Held). boarded u.outcome (with_slot b i u.key u.account)) q ∙ ap went (sym m ∙ p) ∙ thin_seat n

-- a collection and a reading, by the slot that the reference holds
module _ (b : Board) (r : ℕ) where
  abbrev placed : ℕ → Freed → Emptied
  placed i w = emptied w.answer (with_slot b i w.key w.account)

  pub off_thin : (i : ℕ) → slot_with (key_of r) b.keys ≡ Some i → (w : Freed) → w ≡ free_of (get_or b.calls i fresh) (get_or b.keys i 0)
      → emptied w.answer (with_slot b i w.key w.account) ≡ collect_on b r
  unfolding free_of collect_on
  off_thin i p w q =
      let z = slot_some (key_of r) b.keys i p in
      ap (placed i) q ∙ ap (λ (j : ℕ). placed j (free_of (get_or b.calls j fresh) (get_or b.keys j 0))) (sym z.1)
      ∙ by_cases (eqb (call_of r b).status.phase Ended)
      (λ e. rw (z.0, e) refl)
      (λ e. rw (z.0, e) (ap (emptied (uncollected 14)) (back b (lowest (key_of r) b.keys))))

  pub off_none : slot_with (key_of r) b.keys ≡ None → emptied (uncollected 37) b ≡ collect_on b r
  unfolding collect_on
  off_none p = rw (slot_none (key_of r) b.keys p) refl

  pub view_thin : (i : ℕ) → slot_with (key_of r) b.keys ≡ Some i → record { number = 0; account = get_or b.calls i fresh } ≡ view_on b r
  unfolding view_on
  view_thin i p =
      let z = slot_some (key_of r) b.keys i p in
      ap (λ (j : ℕ). record { number = 0; account = get_or b.calls j fresh }) (sym z.1) ∙ sym (rw z.0 refl)

  pub view_none : slot_with (key_of r) b.keys ≡ None → record { number = 37; account = fresh } ≡ view_on b r
  unfolding view_on
  view_none p = rw (slot_none (key_of r) b.keys p) refl
