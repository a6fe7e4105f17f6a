-- The search for a currency's row, row by row, and the row stored at the place that is found. Assumes nothing.
use Rattle.prelude.proofs.Prelude.{ℕ, zero, suc, ◌<◌, ◌≤◌, ◌≡◌, refl, sym, ◌∙◌, ap, List, [], ◌∷◌, arith, length, get_or, set, take}
use Rattle.prelude.proofs.Ways.{by_cases}
use Rattle.prelude.proofs.Prelude.{ltb, ltb-false}
use Rattle.std.specs.Prelude.{Option}
use Rattle.std.specs.List.{position, position_or_len}
use Rattle.std.specs.Option.{unwrap_or}
use Rattle.std.proofs.lemmas.List.{length-take-le}
use Rattle.coding.proofs.Basic.{picked, unpicked}
use Rattle.types.specs.declared.Currency.{Currency}
use Rattle.amounts.specs.Currency.{equal_currency}
use Rattle.month_rows.specs.{declared.Row.Row, Rows.{new_row, one_more, row_of, raise}}

-- places past the end
abbrev pub no_row : Row
no_row = record { currency = record { count = 0; octets = [] }; unused = 0; calls = 0; sum = 0 }

module _ (c : Currency) where
  searched : (n : ℕ) (l : List Row) → n ≤ length l → position_or_len (λ r. equal_currency r.currency c) (take n l) ≡ row_of c n l
  unfolding row_of
  searched zero [] h = refl
  searched (suc n) [] h = absurd (omega arith)
  searched zero (x ∷ l) h = refl
  searched (suc n) (x ∷ l) h = by_cases (equal_currency x.currency c) (λ q. rw q refl) (λ q. rw q (let z = searched n l (omega arith) in omega (arith, z)))

  pub at_most : (n : ℕ) (l : List Row) → row_of c n l ≤ n
  unfolding row_of
  at_most n [] = omega arith
  at_most zero (x ∷ l) = omega arith
  at_most (suc n) (x ∷ l) = by_cases (equal_currency x.currency c) (λ q. rw q (omega arith)) (λ q. rw q (let z = at_most n l in omega (arith, z)))

  pub found_or_next : (n : ℕ) (l : List Row) {o : Option ℕ} → n ≤ length l → o ≡ position (λ r. equal_currency r.currency c) (take n l) → unwrap_or o n ≡ row_of c n l
  found_or_next n l h e =
      let k : ℕ = position_or_len (λ r. equal_currency r.currency c) (take n l) in
      let s : k ≡ row_of c n l = searched n l h in
      let most = at_most n l in
      let size : length (take n l) ≡ n = length-take-le n l h in
      rw (e, size) (by_cases (ltb k n) (λ q. rw q s) (λ q. let z = ltb-false k n q in rw q (omega (arith, z, s, most))))

  module _ (t : ℕ) where
    pub stored_new : (n : ℕ) (l : List Row) → n < length l → row_of c n l ≡ n → raise c t n l ≡ set l n (new_row c t)
    unfolding row_of raise
    stored_new n [] h e = absurd (omega arith)
    stored_new zero (x ∷ l) h e = refl
    stored_new (suc n) (x ∷ l) h e =
        by_cases (equal_currency x.currency c) (λ q. let z : 0 ≡ suc n = sym (picked _ _ q) ∙ e in absurd (omega (arith, z)))
        (λ q. let z : suc (row_of c n l) ≡ suc n = sym (unpicked _ _ q) ∙ e in
        unpicked _ _ q ∙ ap (λ (m : List Row). x ∷ m) (stored_new n l (omega arith) (omega (arith, z))))

    abbrev raised_in : List Row → ℕ → List Row
    raised_in l k = set l k (one_more (get_or l k no_row) t)

    pub stored_old : (n : ℕ) (l : List Row) → n ≤ length l → row_of c n l < n → raise c t n l ≡ raised_in l (row_of c n l)
    unfolding row_of raise
    stored_old n [] h e = absurd (omega arith)
    stored_old zero (x ∷ l) h e = absurd (omega arith)
    stored_old (suc n) (x ∷ l) h e =
        by_cases (equal_currency x.currency c)
        (λ q. let z : row_of c (suc n) (x ∷ l) ≡ 0 = picked _ _ q in picked _ _ q ∙ sym (ap (raised_in (x ∷ l)) z))
        (λ q. let z : row_of c (suc n) (x ∷ l) ≡ suc (row_of c n l) = unpicked _ _ q in
        unpicked _ _ q ∙ ap (λ (m : List Row). x ∷ m) (stored_old n l (omega arith) (omega (arith, z, e))) ∙ sym (ap (raised_in (x ∷ l)) z))
