-- A list kept in a flat array of numbers: each entry is a row of it.
use Rattle.std.specs.Prelude.{ℕ, zero, suc, List, [], ◌∷◌, ◌++◌}

module _ {A : Type 0} where
  -- the rows of the entries, one after the other
  unfoldable pub rows : (A → List ℕ) → List A → List ℕ
  rows row [] = []
  rows row (x ∷ xs) = row x ++ rows row xs

  -- the entries 0 to n - 1
  unfoldable pub table : ℕ → (ℕ → A) → List A
  table zero f = []
  table (suc n) f = f 0 ∷ table n (λ i. f (suc i))
