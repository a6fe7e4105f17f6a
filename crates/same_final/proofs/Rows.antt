-- The first entries of two lists are equal where their rows are.
use Rattle.prelude.proofs.Prelude.{ℕ, zero, suc, ◌+◌, ◌*◌, ◌≤◌, ◌<◌, ◌≡◌, refl, List, [], ◌∷◌, Bool, true, false, ◌&&◌, length, take, get_or, eqb, arith, not-suc-le-zero}
use Rattle.std.specs.Str.{bytes_eq}
use Rattle.types.specs.{declared.Entries.Entries, Entries.unit_at, Entries.same_units}
use Rattle.octets.specs.Each.{each}

-- one more of two lists
one_more : (xs ys : List ℕ) (n : ℕ) → n < length xs → n < length ys → bytes_eq (take (suc n) xs) (take (suc n) ys) ≡ (bytes_eq (take n xs) (take n ys) && eqb (get_or xs n 0) (get_or ys n 0))
one_more [] ys n h k = absurd (not-suc-le-zero h)
one_more (x ∷ xs) [] n h k = absurd (not-suc-le-zero k)
one_more (x ∷ xs) (y ∷ ys) zero h k = go (eqb x y)
  where
    go : (b : Bool) → b && true ≡ b
    go true = refl
    go false = refl
one_more (x ∷ xs) (y ∷ ys) (suc n) h k = go (eqb x y) _ _ (one_more xs ys n (omega arith) (omega arith))
  where
    go : (b q r : Bool) {p : Bool} → p ≡ (q && r) → (b && p) ≡ ((b && q) && r)
    go true q r e = e
    go false q r e = refl

sorted : (a b c d e : Bool) → ((a && c) && ((b && d) && e)) ≡ ((a && b) && (c && (d && e)))
sorted true true c d e = refl
sorted true false true d e = refl
sorted true false false d e = refl
sorted false b c d e = refl

abbrev pub rows_equal : Entries → Entries → ℕ → Bool
rows_equal e f n = bytes_eq (take n e.numbers) (take n f.numbers) && bytes_eq (take (2 * n) e.octets) (take (2 * n) f.octets)

module _ (e f : Entries) (p : length e.numbers ≡ 32) (q : length f.numbers ≡ 32) (r : length e.octets ≡ 192) (s : length f.octets ≡ 192) where
  pub by_rows : (n : ℕ) → n ≤ 32 → rows_equal e f n ≡ each n (λ i. same_units (unit_at e i) (unit_at f i))
  by_rows zero h = refl
  by_rows (suc n) h =
      let k : 2 * suc n ≡ suc (suc (2 * n)) = omega arith in
      let j : 2 * n + 1 ≡ suc (2 * n) = omega arith in
      rw (
        k,
        j,
        one_more e.numbers f.numbers n (omega arith) (omega arith),
        one_more e.octets f.octets (suc (2 * n)) (omega arith) (omega arith),
        one_more e.octets f.octets (2 * n) (omega arith) (omega arith),
        ← by_rows n (omega arith),
      ) (search sorted)
