-- A test of each number of a range, as `all` has it.
use Rattle.prelude.proofs.Prelude.{ℕ, zero, suc, ◌+◌, ◌<◌, ◌≤◌, ◌≡◌, refl, Bool, true, arith, dec_lt}
use Rattle.std.specs.List.{list_all, range_with_len}
use Rattle.coding.proofs.Basic.{and_left, and_right}

module _ (t : ℕ → Bool) where
  pub all_in_range : (a n : ℕ) → ((k : ℕ) → a ≤ k → k < a + n → t k ≡ true) → list_all t (range_with_len a n) ≡ true
  all_in_range a zero h = refl
  all_in_range a (suc n) h = rw (h a (omega arith) (omega arith)) (all_in_range (a + 1) n (λ k p q. h k (omega arith) (omega arith)))

  pub each_in_range : (a n : ℕ) → list_all t (range_with_len a n) ≡ true → (k : ℕ) → a ≤ k → k < a + n → t k ≡ true
  each_in_range a zero h k p q = absurd (omega arith)
  each_in_range a (suc n) h k p q = elim (dec_lt a k) [
    | yes l ↦ each_in_range (a + 1) n (and_right (t a) _ h) k (omega arith) (omega arith)
    | no m ↦ let e : k ≡ a = omega arith in rw e (and_left (t a) _ h)
  ]
