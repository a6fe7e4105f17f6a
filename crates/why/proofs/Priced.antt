-- The reason is 2 exactly where the account has a closing figure, and its event has that figure.
use Rattle.prelude.proofs.Prelude.{ℕ, ◌+◌, ◌≡◌, refl, sym, ap, ◌∙◌, Bool, false, not, cond, List, [], ◌∷◌, reverse, arith, length, eqb, eq-eqb, ne_eqb, not-true, not-false}
use Rattle.types.specs.{declared.Charge.Charge, Arguments.no_charge}
use Rattle.phases.{specs.Phases.Ended, specs.Phases.D, specs.Phases.E, specs.Phases.Given, proofs.Choice.by_number, proofs.Choice.never}
use Rattle.prelude.proofs.Ways.{by_cases}
use Rattle.outcomes.{specs.Outcome.first_final, specs.Outcome.judge, specs.Outcome.charge_in, specs.Outcome.its, proofs.Judging.only_final}
use Rattle.account.specs.History.{Judged, any, known, judged, phase, has_final, final, closing}
use Rattle.events.{specs.Earliest.or_else, specs.Earliest.earliest, proofs.Earliest.at_most}
use Rattle.why_rules.specs.{declared.Reason.Reason, Reasons.if_found, Reasons.explained, Reasons.reason_of, inner.Seeing.seen_by}

-- the charge of event n
abbrev pub charge_at : ℕ → List Judged → Charge
charge_at n [] = no_charge
charge_at n (j ∷ h) = cond (eqb n (length h + 1)) (charge_in j.octets) (charge_at n h)

any_found : (t : Judged → Bool) (h : List Judged) → any t h ≡ not (eqb (earliest t h) 0)
any_found t [] = refl
any_found t (j ∷ h) =
    by_cases (t j)
    (λ q. by_cases (eqb (earliest t h) 0) (λ e. simp (e, q, ne_eqb (length h + 1) 0 (λ z. omega arith))) (λ e. simp (e, q)))
    (λ q. by_cases (eqb (earliest t h) 0) (λ e. simp (e, q, any_found t h)) (λ e. simp (e, q, any_found t h)))

other : (n e : ℕ) (rest : Reason) → eqb n 2 ≡ false → eqb rest.reason 2 ≡ false → eqb (if_found n e rest).reason 2 ≡ false
other n e rest p q = by_cases (eqb e 0) (λ z. rw z q) (λ z. rw z p)

-- ---- a service has one 22, so that the earliest is the last

kept : (e n : ℕ) → or_else e false n ≡ e
kept e n = by_number e 0 (λ z. rw z) (λ z. rw z)

module _ (s : ℕ) (same : (h : List Given) → (first_final (known (judged h)) s).given ≡ has_final s (judged h)) where
  gives : (h : List Given) → final s (judged h) ≡ charge_at (earliest (λ j. its s 22 j.outcome) (judged h)) (judged h)
  gives [] = refl
  gives (g ∷ h) =
      let e : ℕ = earliest (λ j. its s 22 j.outcome) (judged h) in
      let n : ℕ = length (judged h) + 1 in
      by_cases (its s 22 (judge (known (judged h)) g.event g.octets))
      (λ q. by_cases (has_final s (judged h))
      (λ f. never (sym (only_final (known (judged h)) g.event g.octets s (same h ∙ f)) ∙ q))
      (λ f. rw (q, not-false (eqb e 0) (sym (any_found (λ j. its s 22 j.outcome) (judged h)) ∙ f), eq-eqb n n refl)))
      (λ q.
      let w : earliest (λ j. its s 22 j.outcome) (judged (g ∷ h)) ≡ e = rw q (kept e n) in
      let later : eqb e n ≡ false = ne_eqb e n (λ z. omega (arith, at_most (λ j. its s 22 j.outcome) (judged h))) in
      let past : charge_at e (judged (g ∷ h)) ≡ charge_at e (judged h) = rw later refl in
      let same_last : final s (judged (g ∷ h)) ≡ final s (judged h) = rw q refl in
      same_last ∙ gives h ∙ sym past ∙ sym (ap (λ k. charge_at k (judged (g ∷ h))) w))

-- ---- by the phase and the finals

finals_by : (h : List Given) → (eqb (explained (judged h)).reason 2 ≡ not (eqb (closing (judged h)).service 0))
    × (eqb (closing (judged h)).service 0 ≡ false → (closing (judged h)).value ≡ charge_at (explained (judged h)).event (judged h))
unfolding explained
finals_by h =
    let s = seen_by (judged h) in
    by_cases (eqb (phase (judged h)) Ended)
    (λ p. by_cases (eqb s.efinal 0)
    (λ x. by_cases (eqb s.dfinal 0)
    (λ y. simp (p, any_found, x, y)
    (other 3 s.figure _ refl (other 4 s.absent _ refl (other 5 s.running _ refl (other 6 s.refused _ refl refl))), λ q. never (sym q)))
    (λ y. simp (p, any_found, x, y) (refl, λ _. gives D (λ h. refl) h)))
    (λ x. simp (p, any_found, x) (refl, λ _. gives E (λ h. refl) h)))
    (λ p. simp p (refl, λ q. never (sym q)))

pub priced : (l : List Given) → eqb (reason_of l).reason 2 ≡ not (eqb (closing (judged (reverse l))).service 0)
unfolding reason_of
priced l = (finals_by (reverse l)).0

pub gave : (l : List Given) → (reason_of l).reason ≡ 2 → (closing (judged (reverse l))).value ≡ charge_at (reason_of l).event (judged (reverse l))
unfolding reason_of
gave l r = (finals_by (reverse l)).1 (not-true (eqb (closing (judged (reverse l))).service 0) (sym (priced l) ∙ eq-eqb (reason_of l).reason 2 r))
