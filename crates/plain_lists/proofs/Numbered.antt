-- The outcome of an event by its number.
use Rattle.prelude.proofs.Prelude.{ℕ, zero, suc, ◌+◌, ◌-◌, ◌/◌, ◌≤◌, ◌<◌, ◌≡◌, refl, sym, ◌∙◌, ap, List, [], ◌∷◌, ne_eqb, eqb-false, arith, length, add-zero}
use Rattle.phases.{specs.declared.Outcome.Outcome, specs.Phases.Given, specs.Phases.no_service, proofs.Choice.by_number}
use Rattle.outcomes.specs.Outcome.{judge}
use Rattle.account.specs.History.{known, judged}
use Rattle.events.{specs.Events.{row_at, count_at, events_from, events_of}, specs.inner.Prefix.{place_at, octets_at, before}, proofs.Prefix.{before_next, place_next}}
use Rattle.plain_lists.specs.Lists.{outcome_at}

pub none_at_lem : (h l : List Given) → outcome_at h l 0 ≡ no_service 0
unfolding outcome_at
none_at_lem h [] = refl
none_at_lem h (g ∷ l) = none_at_lem (g ∷ h) l

none_past : (h l : List Given) (k : ℕ) → length l < k → outcome_at h l k ≡ no_service 0
unfolding outcome_at
none_past h [] k q = refl
none_past h (g ∷ l) k q = rw (ne_eqb k 1 (λ e. omega arith)) (none_past (g ∷ h) l (k - 1) (omega arith))

module _ (rows octets : List ℕ) where
  abbrev at : ℕ → Outcome
  at i = judge (known (judged (before rows octets i))) (row_at rows i) (octets_at rows octets i)

  from_here : (n i j : ℕ) → j < n → outcome_at (before rows octets i) (events_from rows octets i n (place_at rows i)) (j + 1) ≡ at (i + j)
  unfolding outcome_at events_from
  from_here zero i j h = absurd (omega arith)
  from_here (suc n) i j h =
      by_number j 0 (λ z. rw (z, add-zero i) refl)
      (λ z. let p : 1 ≤ j = omega (arith, eqb-false j 0 z) in
      let one : j + 1 - 1 ≡ j - 1 + 1 = omega arith in
      let sum : i + 1 + (j - 1) ≡ i + j = omega arith in
      rw (ne_eqb (j + 1) 1 (λ e. omega arith), one, ← before_next rows octets i, ← place_next rows octets i) (from_here n (i + 1) (j - 1) (omega arith) ∙ ap at sum))

  events_count : (n i p : ℕ) → length (events_from rows octets i n p) ≡ n
  unfolding events_from
  events_count zero i p = refl
  events_count (suc n) i p = ap suc (events_count n (i + 1) (p + count_at rows i))

  pub outcome_numbered : (k : ℕ) → (k ≡ 0 → ⊥) → k ≤ length rows / 6 → (r : Outcome) → r ≡ at (k - 1) → r ≡ outcome_at [] (events_of rows octets) k
  unfolding events_of before place_at
  outcome_numbered k n h r e =
      let p : k ≡ k - 1 + 1 = omega arith in
      let sum : 0 + (k - 1) ≡ k - 1 = omega arith in
      e ∙ sym (ap (outcome_at [] (events_from rows octets 0 (length rows / 6) 0)) p ∙ from_here (length rows / 6) 0 (k - 1) (omega arith) ∙ ap at sum)

  pub outcome_past : (k : ℕ) → length rows / 6 < k → outcome_at [] (events_of rows octets) k ≡ no_service 0
  unfolding events_of
  outcome_past k h = none_past [] (events_from rows octets 0 (length rows / 6) 0) k (omega (arith, events_count (length rows / 6) 0 0))
