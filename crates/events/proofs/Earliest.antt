-- The earliest event that passes a test passes it, and none before it does.
use Rattle.prelude.proofs.{Prelude.{ℕ, ◌+◌, ◌≤◌, ◌≡◌, refl, Bool, true, List, [], ◌∷◌, arith, length, eqb-false, ne_eqb}, Ways.by_cases}
use Rattle.phases.proofs.Choice.{by_number}
use Rattle.events.specs.Earliest.{earliest}

-- event n of a history passes a test
pub data Passes {A : Type 0} (t : A → Bool) : List A → ℕ → Type 0 where
  latest : {j : A} {h : List A} {n : ℕ} → n ≡ length h + 1 → t j ≡ true → Passes t (j ∷ h) n
  earlier : {j : A} {h : List A} {n : ℕ} → Passes t h n → Passes t (j ∷ h) n

module _ {A : Type 0} (t : A → Bool) where
  pub found : (h : List A) → (earliest t h ≡ 0 → ⊥) → Passes t h (earliest t h)
  found [] z = absurd (z refl)
  found (j ∷ h) z =
      by_number (earliest t h) 0
      (λ e. by_cases (t j) (λ q. rw (e, q) (latest refl q)) (λ q. absurd (z (rw (e, q) refl))))
      (λ e. rw e (earlier (found h (eqb-false (earliest t h) 0 e))))

  pub none_found : (h : List A) → ((n : ℕ) → Passes t h n → ⊥) → earliest t h ≡ 0
  none_found h none = by_number (earliest t h) 0 (λ e. e) (λ e. absurd (none (earliest t h) (found h (eqb-false (earliest t h) 0 e))))

  pub at_most : (h : List A) → earliest t h ≤ length h
  at_most [] = omega arith
  at_most (j ∷ h) =
      by_number (earliest t h) 0
      (λ e. by_cases (t j) (λ q. rw (e, q) (omega arith)) (λ q. rw (e, q) (omega arith)))
      (λ e. rw e (omega (arith, at_most h)))

  pub first : {h : List A} {n : ℕ} → Passes t h n → (earliest t h ≡ 0 → ⊥) × (earliest t h ≤ n)
  first (latest {j} {h} {n} e q) =
      by_number (earliest t h) 0
      (λ z. rw (z, q) ((λ y. omega arith), omega arith))
      (λ z. rw z (eqb-false (earliest t h) 0 z, omega (arith, at_most h)))
  first (earlier {j} {h} {n} p) = rw (ne_eqb (earliest t h) 0 (first p).0) (first p)
