-- Laws of a list kept in a flat array of numbers, k numbers to an entry.
use Rattle.prelude.proofs.Prelude.{ℕ, zero, suc, ◌+◌, ◌*◌, ◌≤◌, ◌<◌, ◌≡◌, refl, sym, ap, ap₂, ◌∙◌, List, [], ◌∷◌, ◌++◌, append_assoc, append-nil, arith, mul-zero, suc-mul, mul-suc, mul_comm}
use Rattle.prelude.proofs.Prelude.{length, get_or, length-append, List·getD-append, sets, get_or-append-add}
use Rattle.coding.specs.{Codec.pad, Rows.rows, Rows.table}
use Rattle.coding.proofs.Arrays.{padded_more}

-- ---- tables

module _ {A : Type 0} where
  pub table_length : (n : ℕ) (g : ℕ → A) → length (table n g) ≡ n
  unfolding table
  table_length zero g = refl
  table_length (suc n) g = ap suc (table_length n (λ i. g (suc i)))

  -- a table whose entries are those of a list is the list
  pub rows_table : (xs : List A) (z : A) (g : ℕ → A) → ((i : ℕ) → i < length xs → g i ≡ get_or xs i z) → table (length xs) g ≡ xs
  unfolding table
  rows_table [] z g h = refl
  rows_table (x ∷ xs) z g h = ap₂ (λ (y : A) (ys : List A). y ∷ ys) (h 0 (omega arith)) (rows_table xs z (λ i. g (suc i)) (λ i l. h (suc i) (omega arith)))

  -- one entry more
  pub table_more : (n : ℕ) (g : ℕ → A) → table (suc n) g ≡ table n g ++ (g n ∷ [])
  unfolding table
  table_more zero g = refl
  table_more (suc n) g = ap (λ (ys : List A). g 0 ∷ ys) (table_more n (λ i. g (suc i)))

-- ---- an array

module _ {A : Type 0} (n : ℕ) (z : A) where
  -- several places, stored from the first unused on
  pub pad_sets : (xs vs : List A) (p : ℕ) → length xs ≡ p → p + length vs ≤ n → sets (pad n z xs) p vs ≡ pad n z (xs ++ vs)
  pad_sets xs [] p e h = ap (pad n z) (sym (append-nil xs))
  pad_sets xs (v ∷ vs) p e h =
      let l : length (xs ++ (v ∷ [])) ≡ suc p = length-append xs (v ∷ []) ∙ omega (arith, e) in
      ap (λ (ys : List A). sets ys (suc p) vs) (padded_more n z xs v p e (omega arith))
      ∙ pad_sets (xs ++ (v ∷ [])) vs (suc p) l (omega arith)
      ∙ ap (pad n z) (append_assoc xs (v ∷ []) vs)

-- ---- rows of k numbers

module _ {A : Type 0} (row : A → List ℕ) where
  pub rows_append : (xs ys : List A) → rows row (xs ++ ys) ≡ rows row xs ++ rows row ys
  unfolding rows
  rows_append [] ys = refl
  rows_append (x ∷ xs) ys = ap (λ (zs : List ℕ). row x ++ zs) (rows_append xs ys) ∙ sym (append_assoc (row x) (rows row xs) (rows row ys))

module _ {A : Type 0} (row : A → List ℕ) (k : ℕ) (wide : (x : A) → length (row x) ≡ k) where
  pub rows_length : (xs : List A) → length (rows row xs) ≡ k * length xs
  unfolding rows
  rows_length [] = sym (mul-zero k)
  rows_length (x ∷ xs) = omega (arith, length-append (row x) (rows row xs), wide x, rows_length xs, mul-suc k (length xs))

  at : (xs : List A) (post : List ℕ) (z : A) (i j : ℕ) → i < length xs → j < k → get_or (rows row xs ++ post) (i * k + j) 0 ≡ get_or (row (get_or xs i z)) j 0
  unfolding rows
  at [] post z i j l h = absurd (omega arith)
  at (x ∷ xs) post z zero j l h =
      let e : 0 * k + j ≡ j = omega arith in
      rw (append_assoc, e, List·getD-append (row x) (rows row xs ++ post) 0 j (omega (arith, wide x)))
  at (x ∷ xs) post z (suc i) j l h =
      let e : suc i * k + j ≡ length (row x) + (i * k + j) = omega (arith, wide x, suc-mul i k) in
      rw (append_assoc, e, get_or-append-add) (at xs post z i j (omega arith) h)

  -- number j of entry i
  pub rows_get' : (n : ℕ) (xs : List A) (z : A) (i j : ℕ) → i < length xs → j < k → get_or (pad n 0 (rows row xs)) (k * i + j) 0 ≡ get_or (row (get_or xs i z)) j 0
  unfolding pad
  rows_get' n xs z i j l h = ap (λ (m : ℕ). get_or (pad n 0 (rows row xs)) (m + j) 0) (mul_comm k i) ∙ at xs _ z i j l h

  -- one entry more, stored at the first unused row
  pub rows_more_at : (n : ℕ) (xs : List A) (v : A) (c : ℕ) → length xs ≡ c → k * c + k ≤ n
      → sets (pad n 0 (rows row xs)) (k * c) (row v) ≡ pad n 0 (rows row (xs ++ (v ∷ [])))
  unfolding rows
  rows_more_at n xs v c e h =
      pad_sets n 0 (rows row xs) (row v) (k * c) (rows_length xs ∙ ap (λ (m : ℕ). k * m) e) (omega (arith, wide v))
      ∙ rw (rows_append row xs (v ∷ []), append-nil (row v))
