-- A month's rows are those of its currencies, and zeros behind them. Assumes nothing.
use Rattle.prelude.proofs.Prelude.{ℕ, suc, ◌+◌, ◌-◌, ◌*◌, ◌^◌, ◌<◌, ◌≤◌, ◌≡◌, refl, sym, ◌∙◌, ap, ap₂, subst, List, [], ◌∷◌, ◌++◌, map, Bool, true, false, not, eqb, eqb-false, eq-eqb}
use Rattle.prelude.proofs.{Prelude.{ne_eqb, le-leb, arith, length, length-append, replicate, suc-mul}, Ways.by_cases}
use lib.ListN.{length-map}
use Rattle.coding.{specs.Codec.pad, proofs.Basic.picked, proofs.Basic.unpicked}
use Rattle.phases.proofs.Choice.{by_number}
use Rattle.types.specs.declared.Currency.{Currency}
use Rattle.amounts.specs.Currency.{equal_currency}
use Rattle.same_final.specs.Same.{up_to}
use Rattle.month_rows.specs.{declared.Row.Row, Rows.zero_row, Rows.row_of, Rows.raise}
use Rattle.month_rules.specs.{declared.Month.Month, Month.{used, is_new, with_money}}
use Rattle.month_totals.specs.Totals.{Posted, which, total, currency_of, amount_in, is_money_call, in_currency, appears, currencies, row_by, rows_by}
use Rattle.month_totals.proofs.{Rows.{stays, grows, rows_known, rows_new}, Ranges.{Fine, AllFine, none, more}}

-- ---- no sum wraps

pub fewer : {A : Type 0} (t : A → Bool) (h : List A) → length (which t h) ≤ length h
fewer t [] = omega arith
fewer t (p ∷ h) = let z = fewer t h in by_cases (t p) (λ q. rw q (omega (arith, z))) (λ q. rw q (omega (arith, z)))

pub sum_small : (t : Posted → Bool) {h : List Posted} → AllFine h → total amount_in (which t h) ≤ length h * 16777215000000
sum_small t none = omega arith
sum_small t (more {p} {h} f s) =
    let z = sum_small t s in let y = suc-mul (length h) 16777215000000 in let a = f.amount in
    by_cases (t p) (λ q. rw q (omega (arith, z, y, a))) (λ q. rw q (omega (arith, z, y, a)))

-- ---- the rows that are used

pub record Filled (m : Month) (h : List Posted) : Type 0 where
  pub rows : m.rows ≡ pad 16 zero_row (rows_by h)
  pub count : m.count ≡ length (currencies h)
  pub room : length (currencies h) ≤ 16

abbrev behind : List Posted → List Row
behind h = replicate (16 - length (currencies h)) zero_row

padded : (h : List Posted) → pad 16 zero_row (rows_by h) ≡ rows_by h ++ behind h
unfolding pad
padded h = ap (λ (n : ℕ). rows_by h ++ replicate (16 - n) zero_row) (length-map (currencies h) (row_by h))

pub used_is : (m : Month) (h : List Posted) → Filled m h → used m ≡ length (currencies h)
used_is m h f = ap (up_to 16) f.count ∙ picked _ _ (le-leb _ 16 f.room)

pub suc_eqb : (a b : ℕ) → eqb (suc a) (suc b) ≡ eqb a b
suc_eqb a b = by_number a b (λ e. eq-eqb (suc a) (suc b) (ap suc e) ∙ sym (eq-eqb a b e)) (λ e. ne_eqb (suc a) (suc b) (λ z. eqb-false a b e (omega (arith, z))) ∙ sym e)

search_known : (h : List Posted) (c : Currency) (l : List Currency) (zs : List Row) → eqb (row_of c (length l) (map (row_by h) l ++ zs)) (length l) ≡ not (appears c l)
unfolding row_of
search_known h c [] [] = refl
search_known h c [] (z ∷ zs) = refl
search_known h c (d ∷ l) zs =
    by_cases (equal_currency d c)
    (λ q. rw q (ne_eqb 0 (suc (length l)) (λ e. omega (arith, e))))
    (λ q. rw q (suc_eqb (row_of c (length l) (map (row_by h) l ++ zs)) (length l) ∙ search_known h c l zs))

pub new_is : (m : Month) (h : List Posted) → Filled m h → (c : Currency) → is_new m c ≡ not (appears c (currencies h))
new_is m h f c = ap₂ (λ (n : ℕ) (l : List Row). eqb (row_of c n l) n) (used_is m h f) (f.rows ∙ padded h) ∙ search_known h c (currencies h) (behind h)

-- ---- money is added

module _ (m : Month) (h : List Posted) (f : Filled m h) (p : Posted) (money : is_money_call p ≡ true) (few : length h < 4096) (fine : AllFine h) (g : Fine p) where
  abbrev c : Currency
  c = currency_of p

  abbrev after : Month
  after = with_money m p.charge.figure.money

  calls_fit : (d : Currency) → length (which (in_currency d) h) + 1 < 2 ^ 32
  calls_fit d = let z = fewer (in_currency d) h in omega (arith, z, few)

  sum_fits : (d : Currency) → total amount_in (which (in_currency d) h) + amount_in p < 2 ^ 64
  sum_fits d =
      let z = sum_small (in_currency d) fine in let a = g.amount in
      let y : length h * 16777215000000 ≤ 4096 * 16777215000000 = omega (arith, few) in omega (arith, z, y, a)

  raised_rows : after.rows ≡ raise c (amount_in p) (length (currencies h)) (rows_by h ++ behind h)
  raised_rows = ap₂ (raise c (amount_in p)) (used_is m h f) (f.rows ∙ padded h)

  pub filled_known : appears c (currencies h) ≡ true → Filled after (p ∷ h)
  filled_known k =
      let same : currencies (p ∷ h) ≡ currencies h = stays p h money k in
      record {
        rows = raised_rows ∙ rows_known p h money calls_fit sum_fits (behind h) k ∙ ap (λ (l : List Currency). rows_by (p ∷ h) ++ replicate (16 - length l) zero_row) (sym same) ∙ sym (padded (p ∷ h));
        count = unpicked _ _ (new_is m h f c ∙ ap not k) ∙ f.count ∙ ap length (sym same);
        room = subst (λ (l : List Currency). length l ≤ 16) (sym same) f.room;
      }

  pub filled_new : appears c (currencies h) ≡ false → length (currencies h) < 16 → Filled after (p ∷ h)
  filled_new k room =
      let size : length (currencies (p ∷ h)) ≡ length (currencies h) + 1 = ap length (grows p h money k) ∙ length-append (currencies h) (c ∷ []) in
      let one : 16 - length (currencies h) ≡ suc (16 - length (currencies (p ∷ h))) = omega (arith, size, room) in
      record {
        rows = raised_rows ∙ ap (λ (n : ℕ). raise c (amount_in p) (length (currencies h)) (rows_by h ++ replicate n zero_row)) one ∙ rows_new p h money zero_row (behind (p ∷ h)) k ∙ sym (padded (p ∷ h));
        count = picked _ _ (new_is m h f c ∙ ap not k) ∙ ap (λ (n : ℕ). n + 1) (used_is m h f) ∙ sym size;
        room = omega (arith, size, room);
      }
