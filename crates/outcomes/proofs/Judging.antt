-- What the rules of outcomes give whatever is known of the call. None of this looks at code or into the reading of octets.
use Rattle.prelude.proofs.{Prelude.{ℕ, ◌≡◌, refl, sym, ◌∙◌, ap, List, [], ◌∷◌, Bool, true, false, ◌&&◌, ◌||◌, cond, eqb, eqb-true, ne_eqb}, Ways.by_cases}
use Rattle.types.specs.{declared.Charge.Charge, Frames.read_of, Frames.refused_at}
use Rattle.same_final.specs.Same.{same_of}
use Rattle.phases.specs.{declared.Event.Event, declared.Outcome.Outcome, Phases.{Idle, Ended, Setup, Component, S, outcome, no_service, clashes, allowed}}
use Rattle.phases.proofs.{Choice.{by_number, never}, Transitions.{from_idle, from_ended}}
use Rattle.coding.specs.Reader.{among}
use Rattle.outcomes.specs.Outcome.{is_refusal, Known, fits, runs, closes, judge_figure, first_final, judge_record, judge_answer, judge, charge_in, was, its, settles}
use Rattle.outcomes.specs.Status.{is_given}
use Rattle.outcomes.proofs.Refusals.{apart, decoding_refusal}

-- ---- a phase event, by how it is judged: t that it is allowed, u that two of its requests clash

abbrev pub phased : ℕ → Bool → Bool → Outcome
phased kind t u = cond t (cond (eqb kind Setup && u) (no_service 13) (no_service 0)) (no_service 14)

pub phased_judge : (k : Known) (e : Event) (o : List ℕ) → eqb e.kind Component ≡ false → judge k e o ≡ phased e.kind (allowed e.kind k.phase) (clashes e)
unfolding judge
phased_judge k e o q = rw q

-- ---- in Idle no request gets its 24 or 25

pub unsettled_now : (s : ℕ) (k : Known) (e : Event) (o : List ℕ) → k.phase ≡ Idle → settles s (judge k e o) ≡ false
unfolding judge
unsettled_now s k e o z =
    by_cases (eqb e.kind Setup)
    (λ q. let c : eqb e.kind Component ≡ false = ap (λ (x : ℕ). eqb x Component) (eqb-true e.kind Setup q) in
    by_cases (allowed e.kind k.phase) (λ a. by_cases (clashes e) (λ v. rw (a, c, q, v)) (λ v. rw (a, c, q, v))) (λ a. rw a))
    (λ q. rw (from_idle e.kind k.phase z q))

-- ---- what is not read is refused by its own number in every phase: 27 comes after decoding

pub refused_unread : (k : Known) (n p : ℕ) → (n ≡ 0 → ⊥) → judge_answer k (refused_at n p) ≡ no_service n
refused_unread k n p h = rw (ne_eqb n 0 h)

-- ---- in Ended every event is refused

pub ended_judge : (k : Known) (e : Event) (o : List ℕ) → k.phase ≡ Ended → judge k e o ≡ no_service 14
unfolding judge
ended_judge k e o q = rw (from_ended e.kind k.phase q)

-- ---- what holds of each outcome that the rules have holds of the outcome that they give

-- the outcomes but 20, 21, 22 and 24
abbrev quiet : ℕ → Bool
quiet n = is_refusal n || among n (0 ∷ 23 ∷ 25 ∷ 26 ∷ 27 ∷ 30 ∷ 31 ∷ 32 ∷ [])

refused_quiet : (o : List ℕ) → eqb (read_of o).number 0 ≡ false → quiet (read_of o).number ≡ true
refused_quiet o q = rw (decoding_refusal o q)

module _ (P : Outcome → Type 0) where
  by_way : (b : Bool) (x y : Outcome) → (b ≡ true → P x) → (b ≡ false → P y) → P (cond b x y)
  by_way true x y p q = p refl
  by_way false x y p q = q refl

  each_way : (k : Known) (e : Event) (o : List ℕ) → ((n s : ℕ) → quiet n ≡ true → P (outcome n s)) → ((s : ℕ) → fits s (charge_in o) ≡ true → P (outcome 24 s))
      → ((s : ℕ) → eqb (charge_in o).figure.kind 0 ≡ false → P (judge_figure k s (charge_in o))) → P (judge k e o)
  unfolding judge judge_record is_refusal
  each_way k e o still result figure = search (by_way, refused_quiet, still, result, figure) depth 12 fits 5000

-- ---- a figure that is kept is never of kind 0

-- the outcomes that keep a figure
abbrev pub keeps : Outcome → Bool
keeps r = (was 20 r || its S 24 r) || (was 21 r || was 22 r)

-- a result that is kept is a list or a special arrangement
fitting : (s : ℕ) (c : Charge) → fits s c ≡ true → keeps (outcome 24 s) ≡ true → is_given c ≡ true
fitting s c f q =
    by_cases (eqb s S)
    (λ t. by_number c.figure.kind 4 (λ k. rw k) (λ k. rw (eqb-true c.figure.kind 5 (rw (t, k) at f))))
    (λ t. let z : false ≡ true = rw t at q in cc)

pub kept_given : (k : Known) (e : Event) (o : List ℕ) → keeps (judge k e o) ≡ true → is_given (charge_in o) ≡ true
unfolding is_refusal
kept_given k e o =
    each_way (λ r. keeps r ≡ true → is_given (charge_in o) ≡ true) k e o
    (λ n s q f. never (rw (apart quiet n 20 q refl, apart quiet n 24 q refl, apart quiet n 21 q refl, apart quiet n 22 q refl) at f))
    (λ s. fitting s (charge_in o)) (λ s f _. rw f)

-- ---- a service has one 22 at most

pub only_final : (k : Known) (e : Event) (o : List ℕ) (s : ℕ) → (first_final k s).given ≡ true → its s 22 (judge k e o) ≡ false
unfolding is_refusal
only_final k e o s g =
    each_way None k e o (λ n u q. rw (apart quiet n 22 q refl)) (λ u _. refl)
    (λ u _. by_way None (eqb u S) _ _ (λ _. refl) (λ _. by_way None (runs k.phase u (charge_in o)) _ _ (λ _. refl) (λ _.
    by_way None (closes k.phase u (charge_in o)) _ _ (λ _. by_way None (first_final k u).given _ _
    (λ _. by_way None (same_of (first_final k u).charge (charge_in o)) _ _ (λ _. refl) (λ _. refl))
    (λ n. by_number u s (λ e. let z : true ≡ false = sym g ∙ rw e at n in cc) (λ e. e))) (λ _. refl))))
  where
    None : Outcome → Type 0
    None r = its s 22 r ≡ false
