-- What a month's counts add up to, and the order of its rows. Assumes nothing.
use Rattle.prelude.proofs.Prelude.{ℕ, zero, suc, ◌+◌, ◌-◌, ◌<◌, ◌≡◌, refl, sym, ◌∙◌, ap, ap₂, List, [], ◌∷◌, ◌++◌, map, append-nil, Bool, true, false, not, ◌&&◌, ◌||◌, cond, eqb}
use Rattle.prelude.proofs.{Prelude.{eqb-true, eq-eqb, ne_eqb, arith, length, replicate, not-true}, Ways.by_cases}
use mathlib.Core.List.{map-append}
use Rattle.coding.{specs.Codec.pad, specs.Rows.table, proofs.Basic.and_left, proofs.Basic.and_right, proofs.Basic.picked, proofs.Basic.unpicked}
use Rattle.phases.proofs.Choice.{never}
use Rattle.types.specs.declared.Currency.{Currency}
use Rattle.amounts.{specs.Currency.equal_currency, proofs.Currencies.reflexive, proofs.Currencies.symmetric, proofs.Currencies.transitive}
use Rattle.month_rows.specs.{declared.Row.Row, Rows.zero_row}
use Rattle.month_totals.specs.Totals.{Posted, which, total, currency_of, is_money_call, is_free_call, is_unit_call, in_currency, appears, currencies, row_by, rows_by, column_of, in_place, line_by}
use Rattle.month_totals.specs.Totals.{all_differ, firsts, in_order}
use Rattle.month_totals.proofs.Rows.{appears_same, differ, none_yet, missed, one_in, stays, grows}
use Rattle.month_totals.proofs.{Ranges.{Fine, AllFine, none, more, kind_not}, Filled.suc_eqb, Places.column_small, Units.table_same}

module _ {A : Type 0} where
  pub total_append : (f : A → ℕ) (l m : List A) → total f (l ++ m) ≡ total f l + total f m
  total_append f [] m = omega arith
  total_append f (x ∷ l) m = let z = total_append f l m in omega (arith, z)

  which_append : (t : A → Bool) (l m : List A) → which t (l ++ m) ≡ which t l ++ which t m
  which_append t [] m = refl
  which_append t (x ∷ l) m = by_cases (t x) (λ q. rw q (ap (λ (k : List A). x ∷ k) (which_append t l m))) (λ q. rw q (which_append t l m))

-- ---- the calls of all rows

abbrev calls_in : List Posted → Currency → ℕ
calls_in h d = length (which (in_currency d) h)

module _ (p : Posted) (h : List Posted) where
  calls_miss : (l : List Currency) → ((d : Currency) → appears d l ≡ true → in_currency d p ≡ false) → total (calls_in (p ∷ h)) l ≡ total (calls_in h) l
  calls_miss [] n = refl
  calls_miss (d ∷ l) n =
      let rest = calls_miss l (λ e a. n e (by_cases (equal_currency d e) (λ q. rw q refl) (λ q. rw q a))) in
      rw (n d (rw (reflexive d) refl)) (omega (arith, rest))

  module _ (m : is_money_call p ≡ true) where
    abbrev c : Currency
    c = currency_of p

    -- none of those that appear is the figure's
    strange : (l : List Currency) → appears c l ≡ false → (d : Currency) → appears d l ≡ true → in_currency d p ≡ false
    strange l n d a = missed p h m d (by_cases (equal_currency d c) (λ q. never (sym n ∙ sym (appears_same d c l q) ∙ a)) (λ q. q))

    calls_hit : (l : List Currency) → all_differ l ≡ true → appears c l ≡ true → total (calls_in (p ∷ h)) l ≡ suc (total (calls_in h) l)
    calls_hit [] a k = never k
    calls_hit (d ∷ l) a k =
        by_cases (equal_currency d c)
        (λ q. let x = ap length (one_in p h m d q) in
        let y = calls_miss l (strange l (appears_same c d l (symmetric d c q) ∙ not-true (appears d l) (and_left (not (appears d l)) (all_differ l) a))) in
        omega (arith, x, y))
        (λ q. let y = calls_hit l (and_right (not (appears d l)) (all_differ l) a) (rw q at k) in rw (missed p h m d q) (omega (arith, y)))

all_calls : (h : List Posted) → total (calls_in h) (currencies h) ≡ length (which is_money_call h)
all_calls [] = refl
all_calls (p ∷ h) =
    by_cases (is_money_call p)
    (λ m. let w : length (which is_money_call (p ∷ h)) ≡ suc (length (which is_money_call h)) = ap length (picked (p ∷ which is_money_call h) (which is_money_call h) m) in
    by_cases (appears (currency_of p) (currencies h))
    (λ k. ap (total (calls_in (p ∷ h))) (stays p h m k) ∙ calls_hit p h m (currencies h) (differ h) k ∙ ap suc (all_calls h) ∙ sym w)
    (λ k. let one : calls_in (p ∷ h) (currency_of p) ≡ suc (calls_in h (currency_of p)) = ap length (one_in p h m (currency_of p) (reflexive (currency_of p))) in
    let none_before : calls_in h (currency_of p) ≡ 0 = ap length (none_yet (currency_of p) h k) in
    let rest = calls_miss p h (currencies h) (strange p h m (currencies h) k) in
    let split = total_append (calls_in (p ∷ h)) (currencies h) (currency_of p ∷ []) in
    let all = ap (total (calls_in (p ∷ h))) (grows p h m k) ∙ split in
    omega (arith, all, one, none_before, rest, all_calls h, w)))
    (λ m. let same : currencies (p ∷ h) ≡ currencies h = rw m refl in
    ap (total (calls_in (p ∷ h))) same ∙ calls_miss p h (currencies h) (λ d a. rw m refl) ∙ all_calls h ∙ ap length (sym (unpicked (p ∷ which is_money_call h) (which is_money_call h) m)))

rows_calls : (h : List Posted) (l : List Currency) → total (λ (r : Row). r.calls) (map (row_by h) l) ≡ total (calls_in h) l
rows_calls h [] = refl
rows_calls h (d ∷ l) = ap (λ (n : ℕ). calls_in h d + n) (rows_calls h l)

blank_calls : (n : ℕ) → total (λ (r : Row). r.calls) (replicate n zero_row) ≡ 0
blank_calls zero = refl
blank_calls (suc n) = let z = blank_calls n in omega (arith, z)

pub padded_calls : (h : List Posted) → total (λ (r : Row). r.calls) (pad 16 zero_row (rows_by h)) ≡ length (which is_money_call h)
unfolding pad
padded_calls h =
    let n : ℕ = length (rows_by h) in
    let a = total_append (λ (r : Row). r.calls) (rows_by h) (replicate (16 - n) zero_row) in let b = blank_calls (16 - n) in
    let d = rows_calls h (currencies h) ∙ all_calls h in omega (arith, a, b, d)

-- ---- money, free, units

pub kinds_add_up : {h : List Posted} → AllFine h → length (which is_money_call h) + length (which is_free_call h) + length (which is_unit_call h) ≡ length h
kinds_add_up none = refl
kinds_add_up (more {p} {h} f s) =
    let z = kinds_add_up s in
    by_cases (is_money_call p)
    (λ m. rw (m, kind_not p.charge 2 1 (λ e. omega (arith, e)) m, kind_not p.charge 2 3 (λ e. omega (arith, e)) m) (omega (arith, z)))
    (λ m. by_cases (is_free_call p)
    (λ k. rw (m, k, kind_not p.charge 1 3 (λ e. omega (arith, e)) k) (omega (arith, z)))
    (λ k. rw (m, k, f.kind m k) (omega (arith, z))))

-- ---- the places of the table

abbrev pub sum : List ℕ → ℕ
sum = total (λ (n : ℕ). n)

-- two tables that differ by one at one place
spread : (n : ℕ) (f g : ℕ → ℕ) (b : ℕ) → b < n → g b ≡ suc (f b) → ((j : ℕ) → eqb b j ≡ false → g j ≡ f j) → sum (table n g) ≡ suc (sum (table n f))
unfolding table
spread zero f g b l e o = absurd (omega arith)
spread (suc n) f g zero l e o =
    let z = ap sum (table_same n (λ i. g (suc i)) (λ i. f (suc i)) (λ i. o (suc i) (ne_eqb 0 (suc i) (λ y. omega (arith, y))))) in omega (arith, z, e)
spread (suc n) f g (suc b) l e o =
    let z = spread n (λ i. f (suc i)) (λ i. g (suc i)) b (omega arith) e (λ j q. o (suc j) (suc_eqb b j ∙ q)) in
    let y = o 0 (ne_eqb (suc b) 0 (λ x. omega (arith, x))) in omega (arith, z, y)

module _ (p : Posted) (h : List Posted) (f : Fine p) (s : ℕ) where
  abbrev before : ℕ → List Posted
  before b = which (in_place s b) h

  line_hit : eqb p.service s ≡ true → sum (line_by (p ∷ h) s) ≡ suc (sum (line_by h s))
  line_hit q =
      let small : column_of p < 9 = (let z = f.column in let y = column_small p.charge.figure.billed p.charge.figure.billing in omega (arith, z, y)) in
      spread 9 (λ b. length (before b)) (λ b. length (which (in_place s b) (p ∷ h))) (column_of p) small
      (ap length (picked (p ∷ before (column_of p)) (before (column_of p)) (ap₂ (λ (x y : Bool). x && y) q (eq-eqb (column_of p) (column_of p) refl))))
      (λ j n. ap length (unpicked (p ∷ before j) (before j) (ap₂ (λ (x y : Bool). x && y) q n)))

  line_miss : eqb p.service s ≡ false → sum (line_by (p ∷ h) s) ≡ sum (line_by h s)
  line_miss q =
      ap sum (table_same 9 (λ b. length (which (in_place s b) (p ∷ h))) (λ b. length (before b))
      (λ b. ap length (unpicked (p ∷ before b) (before b) (ap (λ (x : Bool). x && eqb (column_of p) b) q))))

pub places_add_up : {h : List Posted} → AllFine h → sum (line_by h 2) + sum (line_by h 3) ≡ length h
unfolding table
places_add_up none = refl
places_add_up (more {p} {h} f s) =
    let z = places_add_up s in
    by_cases (eqb p.service 2)
    (λ q. let e = eqb-true p.service 2 q in
    let a = line_hit p h f 2 q in let b = line_miss p h f 3 (ne_eqb p.service 3 (λ y. omega (arith, y, e))) in omega (arith, a, b, z))
    (λ q. let a = line_miss p h f 2 q in let b = line_hit p h f 3 (f.line 1 ∙ ap (λ (k : ℕ). eqb k 1) (unpicked 0 1 q)) in omega (arith, a, b, z))

-- ---- the order of the rows

abbrev others : Currency → List Currency → List Currency
others d = which (λ e. not (equal_currency d e))

appears_kept : (d c : Currency) → equal_currency d c ≡ false → (l : List Currency) → appears c (others d l) ≡ appears c l
appears_kept d c n [] = refl
appears_kept d c n (e ∷ l) =
    by_cases (equal_currency d e)
    (λ t. let u : equal_currency e c ≡ false = by_cases (equal_currency e c) (λ q. never (sym n ∙ transitive d e c t q)) (λ q. q) in rw (t, u) (appears_kept d c n l))
    (λ t. rw t (ap (λ (b : Bool). equal_currency e c || b) (appears_kept d c n l)))

-- a currency more at the end: it comes last, unless it was there
firsts_more : (c : Currency) (l : List Currency) → firsts (l ++ (c ∷ [])) ≡ cond (appears c (firsts l)) (firsts l) (firsts l ++ (c ∷ []))
firsts_more c [] = refl
firsts_more c (d ∷ l) =
    let cut = which_append (λ e. not (equal_currency d e)) (firsts l) (c ∷ []) in
    by_cases (appears c (firsts l))
    (λ a. by_cases (equal_currency d c) (λ q. rw (firsts_more c l, a, q) refl) (λ q. rw (firsts_more c l, a, q, appears_kept d c q (firsts l), a) refl))
    (λ a. by_cases (equal_currency d c) (λ q. rw (firsts_more c l, a, cut, q, append-nil) refl)
    (λ q. rw (firsts_more c l, a, cut, q, appears_kept d c q (firsts l), a) refl))

pub first_order : (h : List Posted) → currencies h ≡ firsts (map currency_of (which is_money_call (in_order h)))
first_order [] = refl
first_order (p ∷ h) =
    let c : Currency = currency_of p in
    let l : List Currency = map currency_of (which is_money_call (in_order h)) in
    let split : map currency_of (which is_money_call (in_order h ++ (p ∷ []))) ≡ l ++ map currency_of (which is_money_call (p ∷ [])) =
    ap (map currency_of) (which_append is_money_call (in_order h) (p ∷ [])) ∙ map-append currency_of (which is_money_call (in_order h)) (which is_money_call (p ∷ [])) in
    by_cases (is_money_call p)
    (λ m. let e : map currency_of (which is_money_call (p ∷ [])) ≡ c ∷ [] = rw m refl in
    let last = ap firsts (split ∙ ap (λ (k : List Currency). l ++ k) e) ∙ firsts_more c l ∙ ap (λ (k : List Currency). cond (appears c k) k (k ++ (c ∷ []))) (sym (first_order h)) in
    by_cases (appears c (currencies h)) (λ k. stays p h m k ∙ sym (last ∙ picked _ _ k)) (λ k. grows p h m k ∙ sym (last ∙ unpicked _ _ k)))
    (λ m. let e : map currency_of (which is_money_call (p ∷ [])) ≡ [] = rw m refl in
    let same : currencies (p ∷ h) ≡ currencies h = rw m refl in
    same ∙ first_order h ∙ ap firsts (sym (split ∙ ap (λ (k : List Currency). l ++ k) e ∙ append-nil l)))
