-- Yes exactly when no event is refused and all four rules hold of all events; no names the first event that breaks one, and the first rule that it breaks.
use Rattle.prelude.proofs.Prelude.{ℕ, ◌+◌, ◌≤◌, ◌<◌, lit<, ◌≡◌, refl, ap, Bool, true, false, cond, List, [], ◌∷◌, arith, length, eqb, eqb-false, ne_eqb}
use Rattle.prelude.proofs.Ways.{by_cases}
use Rattle.phases.proofs.Choice.{by_number}
use Rattle.outcomes.specs.Outcome.{is_refusal}
use Rattle.account.specs.History.{Judged}
use Rattle.events.proofs.Earliest.{Passes, found, none_found, first}
use Rattle.fault_rules.specs.{declared.FaultAnswer.FaultAnswer, Figures.fault_answer}
use Rattle.fault.specs.Rules.{misplaced, falls, charges, differs, breaks, all_kept, refused_in, broken_in, fault_in}

-- ---- event n is refused; it breaks rule r

abbrev pub Refused : List Judged → ℕ → Type 0
Refused h n = Passes (λ j. is_refusal j.outcome.number) h n

-- an event after a history breaks a rule, by the order of the request
pub data Against (j : Judged) (h : List Judged) : ℕ → Type 0 where
  out_of_place : misplaced j h ≡ true → Against j h 1
  below_last : falls j h ≡ true → Against j h 2
  not_free : charges j h ≡ true → Against j h 3
  another : differs j ≡ true → Against j h 4

pub data Breaks : List Judged → ℕ → ℕ → Type 0 where
  latest : {j : Judged} {h : List Judged} {r n : ℕ} → n ≡ length h + 1 → Against j h r → Breaks (j ∷ h) r n
  earlier : {j : Judged} {h : List Judged} {r n : ℕ} → Breaks h r n → Breaks (j ∷ h) r n

-- ---- the first of four tests that passes

abbrev first_of : Bool → Bool → Bool → Bool → ℕ
first_of a b c d = cond a 1 (cond b 2 (cond c 3 (cond d 4 0)))

pick : (P : ℕ → Type 0) (a b c d : Bool) → (a ≡ true → P 1) → (b ≡ true → P 2) → (c ≡ true → P 3) → (d ≡ true → P 4) → (first_of a b c d ≡ 0 → ⊥) → P (first_of a b c d)
pick P true b c d w x y z some = w refl
pick P false true c d w x y z some = x refl
pick P false false true d w x y z some = y refl
pick P false false false true w x y z some = z refl
pick P false false false false w x y z some = absurd (some refl)

-- there is one, and it is no later than r
abbrev UpTo : ℕ → ℕ → Type 0
UpTo n r = (n ≡ 0 → ⊥) × (n ≤ r)

one : (n r : ℕ) → 0 < n → n ≤ r → UpTo n r
one n r low high = ((λ e. omega (arith, e, low)), high)

-- a test that comes first, whether it passes or not; and the one that passes
passed_by : (a : Bool) (k n r : ℕ) → 0 < k → k < r → UpTo n r → UpTo (cond a k n) r
passed_by true k n r low high u = one k r low (omega arith)
passed_by false k n r low high u = u

meets : (a : Bool) (k n : ℕ) → 0 < k → a ≡ true → UpTo (cond a k n) k
meets a k n low q = rw q (one k k low (omega arith))

ruleset order = (passed_by, meets, lit<, tt)

breaks_there : (j : Judged) (h : List Judged) → (breaks j h ≡ 0 → ⊥) → Against j h (breaks j h)
breaks_there j h some = pick (Against j h) (misplaced j h) (falls j h) (charges j h) (differs j) out_of_place below_last not_free another some

breaks_first : {j : Judged} {h : List Judged} {r : ℕ} → Against j h r → UpTo (breaks j h) r
breaks_first (out_of_place q) = search (order, q) depth 12
breaks_first (below_last q) = search (order, q) depth 12
breaks_first (not_free q) = search (order, q) depth 12
breaks_first (another q) = search (order, q) depth 12

-- ---- the first event that breaks a rule

broken_most : (h : List Judged) → (broken_in h).event ≤ length h
broken_most [] = omega arith
broken_most (j ∷ h) =
    by_cases (eqb (broken_in h).rule 0)
    (λ e. by_cases (eqb (breaks j h) 0) (λ q. rw (e, q) (omega arith)) (λ q. rw (e, q) (omega arith)))
    (λ e. rw e (let z = broken_most h in omega (arith, z)))

broken_there : (h : List Judged) → ((broken_in h).rule ≡ 0 → ⊥) → Breaks h (broken_in h).rule (broken_in h).event
broken_there [] z = absurd (z refl)
broken_there (j ∷ h) z =
    by_cases (eqb (broken_in h).rule 0)
    (λ e. by_cases (eqb (breaks j h) 0) (λ q. absurd (z (rw (e, q) refl))) (λ q. rw (e, q) (latest refl (breaks_there j h (eqb-false (breaks j h) 0 q)))))
    (λ e. rw e (earlier (broken_there h (eqb-false (broken_in h).rule 0 e))))

-- a rule and an event that are no later than another broken rule and its event
pub record Least (rule event r n : ℕ) : Type 0 where
  pub some : rule ≡ 0 → ⊥
  pub event_first : event ≤ n
  pub rule_first : n ≡ event → rule ≤ r

broken_first : {h : List Judged} {r n : ℕ} → Breaks h r n → Least (broken_in h).rule (broken_in h).event r n
broken_first (latest {j} {h} {r} {n} e a) =
    by_cases (eqb (broken_in h).rule 0)
    (λ t. rw (t, ne_eqb (breaks j h) 0 (breaks_first a).0) (record { some = (breaks_first a).0; event_first = omega (arith, e); rule_first = λ _. (breaks_first a).1 }))
    (λ t. rw t
    (let m = broken_most h in
    record { some = eqb-false (broken_in h).rule 0 t; event_first = omega (arith, m, e); rule_first = λ z. absurd (omega (arith, m, e, z)) }))
broken_first (earlier {j} {h} {r} {n} p) = rw (ne_eqb (broken_in h).rule 0 (broken_first p).some) (broken_first p)

-- ---- the theorems

module _ (h : List Judged) where
  refused_now : (refused_in h ≡ 0 → ⊥) → Refused h (refused_in h)
  refused_now z = found (λ j. is_refusal j.outcome.number) h z

  refused_first : {n : ℕ} → Refused h n → (refused_in h ≡ 0 → ⊥) × (refused_in h ≤ n)
  refused_first p = first (λ j. is_refusal j.outcome.number) p

  -- 34 names the first refused event
  pub names_refused : (fault_in h).number ≡ 34 → Refused h (fault_in h).event × ((n : ℕ) → Refused h n → (fault_in h).event ≤ n)
  unfolding fault_in
  names_refused q =
      by_number (refused_in h) 0 (λ e. let z : (broken_in h).number ≡ 34 = rw e at q in absurd (not_34 h z))
      (λ e. rw e (refused_now (eqb-false (refused_in h) 0 e), λ n r. (refused_first r).1))
    where
      not_34 : (h : List Judged) → (broken_in h).number ≡ 34 → ⊥
      not_34 [] z = omega arith
      not_34 (j ∷ h) z =
          by_cases (eqb (broken_in h).rule 0)
          (λ t. by_cases (eqb (breaks j h) 0) (λ y. let w : 0 ≡ 34 = rw (t, y) at z in omega (arith, w)) (λ y. let w : 0 ≡ 34 = rw (t, y) at z in omega (arith, w)))
          (λ t. not_34 h (rw t at z))

  -- it is given wherever an event is refused
  pub refused_is_34 : (n : ℕ) → Refused h n → (fault_in h).number ≡ 34
  unfolding fault_in
  refused_is_34 n r = rw (ne_eqb (refused_in h) 0 (refused_first r).0) refl

  -- no names an event and a rule that it breaks; no event before it breaks one, it breaks none before that, and no event is refused
  pub names_broken : ((fault_in h).rule ≡ 0 → ⊥)
      → Breaks h (fault_in h).rule (fault_in h).event × ((r n : ℕ) → Breaks h r n → Least (fault_in h).rule (fault_in h).event r n) × ((n : ℕ) → Refused h n → ⊥)
  unfolding fault_in
  names_broken q =
      by_number (refused_in h) 0
      (λ e. rw e (broken_there h (rw e at q), (λ r n p. broken_first p), λ n r. (refused_first r).0 e))
      (λ e. absurd (q (rw e refl)))

  -- yes where no event is refused and none breaks a rule
  pub yes_kept : ((n : ℕ) → Refused h n → ⊥) → ((r n : ℕ) → Breaks h r n → ⊥) → fault_in h ≡ all_kept
  unfolding fault_in
  yes_kept none held = rw (none_found (λ j. is_refusal j.outcome.number) h none) (all_kept_lem h held)
    where
      all_kept_lem : (h : List Judged) → ((r n : ℕ) → Breaks h r n → ⊥) → broken_in h ≡ all_kept
      all_kept_lem [] held = refl
      all_kept_lem (j ∷ h) held =
          by_number (breaks j h) 0 (λ e. rw (all_kept_lem h (λ r n p. held r n (earlier p)), e) refl)
          (λ e. absurd (held (breaks j h) (length h + 1) (latest refl (breaks_there j h (eqb-false (breaks j h) 0 e)))))

  -- and only there
  pub kept_yes : fault_in h ≡ all_kept → ((n : ℕ) → Refused h n → ⊥) × ((r n : ℕ) → Breaks h r n → ⊥)
  unfolding fault_in
  kept_yes k =
      by_number (refused_in h) 0
      (λ e. let z : broken_in h ≡ all_kept = rw e at k in ((λ n r. (refused_first r).0 e), λ r n p. (broken_first p).some (ap (λ (v : FaultAnswer). v.rule) z)))
      (λ e. let z : fault_answer 34 0 (refused_in h) ≡ all_kept = rw e at k in let w : 34 ≡ 0 = ap (λ (v : FaultAnswer). v.number) z in absurd (omega (arith, w)))
