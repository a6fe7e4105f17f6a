-- A bound of a table, by one test that antt computes, and of a number times an entry of it.
use Rattle.prelude.proofs.Prelude.{ℕ, zero, suc, ◌*◌, ◌≤◌, zero-le, Bool, true, ◌&&◌, List, [], ◌∷◌, mul-le-mul_left, arith, T, leb, leb→le, get_or}
use mir.Facts.{and_yes}
use Rattle.types.specs.Thousandths.{powers}

abbrev all_up_to : ℕ → List ℕ → Bool
all_up_to b [] = true
all_up_to b (x ∷ xs) = leb x b && all_up_to b xs

entry_up_to : (b : ℕ) (xs : List ℕ) → T (all_up_to b xs) → (k : ℕ) → get_or xs k 0 ≤ b
entry_up_to b [] t k = zero-le
entry_up_to b (x ∷ xs) t zero = leb→le x b (and_yes (leb x b) (all_up_to b xs) t).0
entry_up_to b (x ∷ xs) t (suc k) = entry_up_to b xs (and_yes (leb x b) (all_up_to b xs) t).1 k

-- at most the number of millions
pub product : (number multiplier : ℕ) → number * get_or powers multiplier 0 ≤ number * 1000000
product number multiplier = mul-le-mul_left number (entry_up_to 1000000 powers tt multiplier)

-- a number of an amount in thousandths is at most 16,777,215,000,000
pub bounded : (number multiplier : ℕ) → number ≤ 16777215 → number * get_or powers multiplier 0 ≤ 16777215000000
bounded number multiplier h = omega (arith, product number multiplier)
