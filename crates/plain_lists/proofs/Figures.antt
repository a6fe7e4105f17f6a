-- The figures after the whole list.
use Rattle.prelude.proofs.Prelude.{ℕ, suc, ◌-◌, ◌/◌, ◌≤◌, ◌<◌, ◌≡◌, refl, ◌∙◌, ap, ap₂, List, reverse, Bool, ◌||◌, cond, eqb, arith, length, [], ◌∷◌}
use Rattle.prelude.proofs.Ways.{by_cases}
use Rattle.types.specs.{declared.Charge.Charge}
use Rattle.phases.{specs.declared.Outcome.Outcome, specs.Phases.{S, D, E, Given}, proofs.Choice.by_number}
use Rattle.outcomes.specs.{Outcome.{charge_in, was, its}, Status.{is_given, place_of, is_at}}
use Rattle.outcomes.specs.declared.Place.TheVariants.{Rate, Running, FinalOfD, FinalOfE}
use Rattle.account.specs.{declared.Closing.Closing, History.{Judged, any, last, phase, final, current_rate, running, closing, no_closing, judged}}
use Rattle.account.proofs.Demand.{closing_stands}
use Rattle.events.{specs.Events.events_of, specs.inner.Prefix.{octets_at, before}, proofs.Prefix.all_before}
use Rattle.plain_scans.proofs.Scans.{outcome_of}

module _ (rows octets : List ℕ) where
  pub whole : {A : Type 0} (f : List Judged → A) → f (judged (before rows octets (length rows / 6))) ≡ f (judged (reverse (events_of rows octets)))
  whole f = ap (λ (l : List Given). f (judged l)) (all_before rows octets)

  -- event i, from 1, whose outcome is o
  module _ (f : Outcome → Bool) (i : ℕ) (more : 0 < i) {o : Outcome} (is : o ≡ outcome_of rows octets (i - 1)) where
    pub last_step : (b : Bool) → f o ≡ b
        → last (λ j. f j.outcome) (judged (before rows octets i))
        ≡ cond b (charge_in (octets_at rows octets (i - 1))) (last (λ j. f j.outcome) (judged (before rows octets (i - 1))))
    unfolding before
    last_step b q = let e : i ≡ suc (i - 1) = omega arith in ap (λ (n : ℕ). last (λ j. f j.outcome) (judged (before rows octets n))) e ∙ rw (← is, q) refl

    pub any_step : (b : Bool) → f o ≡ b → any (λ j. f j.outcome) (judged (before rows octets i))
        ≡ (b || any (λ j. f j.outcome) (judged (before rows octets (i - 1))))
    unfolding before
    any_step b q = let e : i ≡ suc (i - 1) = omega arith in ap (λ (n : ℕ). any (λ j. f j.outcome) (judged (before rows octets n))) e ∙ rw (← is, q) refl

  module _ {A : Type 0} (f : List Judged → A) (i : ℕ) (none : i ≤ 0) where
    pub nothing_left : f (judged (before rows octets i)) ≡ f []
    unfolding before
    nothing_left = let e : i ≡ 0 = omega arith in rw e refl

-- ---- which outcomes keep a figure where

last_alike : (t u : Outcome → Bool) → ((r : Outcome) → t r ≡ u r) → (h : List Judged) → last (λ j. t j.outcome) h ≡ last (λ j. u j.outcome) h
last_alike t u e [] = refl
last_alike t u e (j ∷ h) = ap₂ (λ (b : Bool) (c : Charge). cond b (charge_in j.octets) c) (e j.outcome) (last_alike t u e h)

place_is : (r : Outcome) → (is_at Rate (place_of r) ≡ (was 20 r || its S 24 r)) × (is_at Running (place_of r) ≡ was 21 r) × (is_at FinalOfD (place_of r) ≡ its D 22 r)
    × (is_at FinalOfE (place_of r) ≡ its E 22 r)
place_is r =
    by_number r.number 20 (λ e. rw e (refl, refl, refl, refl)) (λ a.
    by_number r.number 21 (λ e. rw e (refl, refl, refl, refl)) (λ b.
    by_number r.number 22
    (λ e. rw e (by_number r.service 2 (λ f. rw f (refl, refl, refl, refl))
    (λ f. by_cases (eqb r.service 3) (λ g. rw (f, g) (refl, refl, refl, refl)) (λ g. rw (f, g) (refl, refl, refl, refl)))))
    (λ c. by_number r.number 24
    (λ e. rw e (by_cases (eqb r.service 1) (λ s. rw s (refl, refl, refl, refl)) (λ s. rw s (refl, refl, refl, refl))))
    (λ d. rw (a, b, c, d) (refl, refl, refl, refl)))))

module _ (h : List Judged) where
  pub rate_kept : last (λ j. is_at Rate (place_of j.outcome)) h ≡ current_rate h
  rate_kept = last_alike (λ r. is_at Rate (place_of r)) (λ r. was 20 r || its S 24 r) (λ r. (place_is r).0) h

  pub running_kept : last (λ j. is_at Running (place_of j.outcome)) h ≡ running h
  running_kept = last_alike (λ r. is_at Running (place_of r)) (was 21) (λ r. (place_is r).1) h

  d_kept : last (λ j. is_at FinalOfD (place_of j.outcome)) h ≡ final D h
  d_kept = last_alike (λ r. is_at FinalOfD (place_of r)) (its D 22) (λ r. (place_is r).2) h

  e_kept : last (λ j. is_at FinalOfE (place_of j.outcome)) h ≡ final E h
  e_kept = last_alike (λ r. is_at FinalOfE (place_of r)) (its E 22) (λ r. (place_is r).3) h

-- ---- the closing figure, by the phase and what is kept at the places 4 and 3

abbrev pub closing_by : ℕ → Charge → Charge → Closing
closing_by p e d =
    cond (eqb p 4) (cond (is_given e) (record { service = E; value = e }) (cond (is_given d) (record { service = D; value = d }) no_closing)) no_closing

pub closing_kept : (l : List Given) {p : ℕ} {e d : Charge} → p ≡ phase (judged l) → e ≡ last (λ j. is_at FinalOfE (place_of j.outcome)) (judged l)
    → d ≡ last (λ j. is_at FinalOfD (place_of j.outcome)) (judged l) → closing_by p e d ≡ closing (judged l)
closing_kept l met by-e by-d = rw (met, by-e ∙ e_kept (judged l), by-d ∙ d_kept (judged l)) (closing_stands l)
