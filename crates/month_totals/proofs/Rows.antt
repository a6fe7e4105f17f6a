-- The rows of currencies: raising one of them is picking the rows out of the list with one figure more. Assumes nothing.
use Rattle.prelude.proofs.Prelude.{ℕ, suc, ◌+◌, ◌^◌, ◌<◌, ◌≡◌, refl, sym, ◌∙◌, ap, ap₂, List, [], ◌∷◌, ◌++◌, map, true, false, not, ◌||◌, arith, length, not-true, mod-eq_of_lt}
use Rattle.coding.proofs.Basic.{and_left, and_right, picked, unpicked}
use Rattle.prelude.proofs.Ways.{by_cases}
use Rattle.phases.proofs.Choice.{never}
use Rattle.types.specs.declared.Currency.{Currency}
use Rattle.amounts.{specs.Currency.equal_currency, proofs.Currencies.reflexive, proofs.Currencies.symmetric, proofs.Currencies.transitive}
use Rattle.month_rows.specs.{declared.Row.Row, Rows.new_row, Rows.one_more, Rows.raise}
use Rattle.month_totals.specs.Totals.{Posted, which, total, currency_of, amount_in, is_money_call, in_currency, appears, currencies, row_by, rows_by, all_differ}

-- ---- equal currencies

pub turned_not : (c d : Currency) → equal_currency c d ≡ false → equal_currency d c ≡ false
turned_not c d q = by_cases (equal_currency d c) (λ e. never (sym q ∙ symmetric d c e)) (λ e. e)

-- what is equal to one of two equal ones is equal to the other
pub same_right : (e c d : Currency) → equal_currency c d ≡ true → equal_currency e c ≡ equal_currency e d
same_right e c d q =
    by_cases (equal_currency e c) (λ t. t ∙ sym (transitive e c d t q))
    (λ t. t ∙ sym (by_cases (equal_currency e d) (λ u. never (sym t ∙ transitive e d c u (symmetric c d q))) (λ u. u)))

pub appears_same : (c d : Currency) (l : List Currency) → equal_currency c d ≡ true → appears c l ≡ appears d l
appears_same c d [] q = refl
appears_same c d (e ∷ l) q = ap₂ (λ a b. a || b) (same_right e c d q) (appears_same c d l q)

pub appears_more : (c e : Currency) (l : List Currency) → appears c (l ++ (e ∷ [])) ≡ (appears c l || equal_currency e c)
appears_more c e [] = by_cases (equal_currency e c) (λ q. rw q refl) (λ q. rw q refl)
appears_more c e (d ∷ l) = by_cases (equal_currency d c) (λ q. rw q refl) (λ q. rw q (appears_more c e l))

-- ---- no two rows have equal currencies

differ_more : (l : List Currency) (c : Currency) → appears c l ≡ false → all_differ l ≡ true → all_differ (l ++ (c ∷ [])) ≡ true
differ_more [] c n a = refl
differ_more (d ∷ l) c n a =
    by_cases (equal_currency d c) (λ q. never (sym (rw q at n)))
    (λ q. let n' : appears c l ≡ false = rw q at n in
    by_cases (appears d l) (λ k. never (rw k at a))
    (λ k. rw (appears_more d c l, k, turned_not d c q) (differ_more l c n' (rw k at a))))

pub differ : (h : List Posted) → all_differ (currencies h) ≡ true
differ [] = refl
differ (p ∷ h) =
    by_cases (is_money_call p) (λ m. by_cases (appears (currency_of p) (currencies h))
    (λ k. rw (m, k) (differ h)) (λ k. rw (m, k) (differ_more (currencies h) (currency_of p) k (differ h))))
    (λ m. rw m (differ h))

-- ---- a currency that no row has had no figure

pub none_yet : (c : Currency) (h : List Posted) → appears c (currencies h) ≡ false → which (in_currency c) h ≡ []
none_yet c [] n = refl
none_yet c (p ∷ h) n =
    by_cases (is_money_call p)
    (λ m. by_cases (appears (currency_of p) (currencies h))
    (λ k. let n' : appears c (currencies h) ≡ false = rw (m, k) at n in
    let e : equal_currency c (currency_of p) ≡ false =
    by_cases (equal_currency c (currency_of p)) (λ q. never (sym n' ∙ appears_same c (currency_of p) (currencies h) q ∙ k)) (λ q. q) in
    rw (m, e) (none_yet c h n'))
    (λ k. let n' : (appears c (currencies h) || equal_currency (currency_of p) c) ≡ false = sym (appears_more c (currency_of p) (currencies h)) ∙ rw (m, k) at n in
    by_cases (appears c (currencies h)) (λ t. never (sym (rw t at n')))
    (λ t. let e : equal_currency c (currency_of p) ≡ false = turned_not (currency_of p) c (rw t at n') in
    rw (m, e) (none_yet c h t))))
    (λ m. rw m (none_yet c h (rw m at n)))

-- ---- one figure more

module _ (p : Posted) (h : List Posted) where
  -- a row that the figure does not belong to
  pub miss : (d : Currency) → in_currency d p ≡ false → row_by h d ≡ row_by (p ∷ h) d
  miss d q = ap (λ (l : List Posted). record { currency = d; unused = 0; calls = length l; sum = total amount_in l }) (sym (unpicked _ _ q))

  module _ (m : is_money_call p ≡ true) where
    abbrev c : Currency
    c = currency_of p

    pub missed : (d : Currency) → equal_currency d c ≡ false → in_currency d p ≡ false
    missed d q = rw (m, q) refl

    pub one_in : (d : Currency) → equal_currency d c ≡ true → which (in_currency d) (p ∷ h) ≡ p ∷ which (in_currency d) h
    one_in d q = rw (m, q) refl

    miss_all : (l : List Currency) → appears c l ≡ false → map (row_by h) l ≡ map (row_by (p ∷ h)) l
    miss_all [] n = refl
    miss_all (d ∷ l) n =
        by_cases (equal_currency d c) (λ q. never (sym (rw q at n)))
        (λ q. ap₂ (λ (x : Row) (y : List Row). x ∷ y) (miss d (missed d q)) (miss_all l (rw q at n)))

    raise_new : (l : List Currency) (z : Row) (zs : List Row) → appears c l ≡ false → which (in_currency c) h ≡ []
        → raise c (amount_in p) (length l) (map (row_by h) l ++ (z ∷ zs)) ≡ map (row_by (p ∷ h)) (l ++ (c ∷ [])) ++ zs
    unfolding raise
    raise_new [] z zs k none =
        let y : amount_in p ≡ amount_in p + 0 = omega arith in
        rw (one_in c (reflexive c), none) (ap (λ (t : ℕ). new_row c t ∷ zs) y)
    raise_new (d ∷ l) z zs k none =
        by_cases (equal_currency d c) (λ q. never (sym (rw q at k)))
        (λ q. unpicked _ _ q ∙ ap₂ (λ (x : Row) (y : List Row). x ∷ y) (miss d (missed d q)) (raise_new l z zs (rw q at k) none))

    pub stays : appears c (currencies h) ≡ true → currencies (p ∷ h) ≡ currencies h
    stays k = rw (m, k) refl

    pub grows : appears c (currencies h) ≡ false → currencies (p ∷ h) ≡ currencies h ++ (c ∷ [])
    grows k = rw (m, k) refl

    -- whatever stands behind the rows that are used
    pub rows_new : (z : Row) (zs : List Row) → appears c (currencies h) ≡ false
        → raise c (amount_in p) (length (currencies h)) (rows_by h ++ (z ∷ zs)) ≡ rows_by (p ∷ h) ++ zs
    rows_new z zs k = raise_new (currencies h) z zs k (none_yet c h k) ∙ ap (λ (l : List Currency). map (row_by (p ∷ h)) l ++ zs) (sym (grows k))

    module _ (calls_fit : (d : Currency) → length (which (in_currency d) h) + 1 < 2 ^ 32)
        (sum_fits : (d : Currency) → total amount_in (which (in_currency d) h) + amount_in p < 2 ^ 64) where
      hit : (d : Currency) → equal_currency d c ≡ true → one_more (row_by h d) (amount_in p) ≡ row_by (p ∷ h) d
      hit d q =
          let l : List Posted = which (in_currency d) h in
          let a : length l + 1 ≡ suc (length l) = omega arith in
          let b : total amount_in l + amount_in p ≡ amount_in p + total amount_in l = omega arith in
          rw (one_in d q, mod-eq_of_lt (calls_fit d), mod-eq_of_lt (sum_fits d), a, b) refl

      raise_known : (l : List Currency) (zs : List Row) → all_differ l ≡ true → appears c l ≡ true
          → raise c (amount_in p) (length l) (map (row_by h) l ++ zs) ≡ map (row_by (p ∷ h)) l ++ zs
      unfolding raise
      raise_known [] zs a k = never k
      raise_known (d ∷ l) zs a k =
          by_cases (equal_currency d c)
          (λ q. picked _ _ q ∙ ap₂ (λ (x : Row) (y : List Row). x ∷ y ++ zs) (hit d q)
          (miss_all l (appears_same c d l (symmetric d c q) ∙ not-true (appears d l) (and_left (not (appears d l)) (all_differ l) a))))
          (λ q. unpicked _ _ q ∙ ap₂ (λ (x : Row) (y : List Row). x ∷ y) (miss d (missed d q)) (raise_known l zs (and_right (not (appears d l)) (all_differ l) a) (rw q at k)))

      pub rows_known : (zs : List Row) → appears c (currencies h) ≡ true → raise c (amount_in p) (length (currencies h)) (rows_by h ++ zs) ≡ rows_by (p ∷ h) ++ zs
      rows_known zs k = raise_known (currencies h) zs (differ h) k ∙ ap (λ (l : List Currency). map (row_by (p ∷ h)) l ++ zs) (sym (stays k))
