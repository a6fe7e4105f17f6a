-- One row more: of the counts.
use Rattle.prelude.proofs.Prelude.{◌≡◌, refl, sym, ap, ◌∙◌, ℕ, zero, suc, ◌+◌, ◌-◌, ◌≤◌, ◌<◌, sub-zero, arith, true, false, ◌&&◌, List, leb, eqb}
use Rattle.prelude.proofs.Prelude.{le-leb, lt-leb, leb-true}
use Rattle.events.specs.Events.{count_at, rows_fit}
use Rattle.coding.proofs.Basic.{and_left}

left_more : (i n : ℕ) → i < n → n - i ≡ suc (n - (i + 1))
left_more i n h = omega arith

left_none : (i n : ℕ) → n ≤ i → n - i ≡ zero
left_none i n h = omega arith

-- ---- the counts

module _ (rows : List ℕ) (i n left : ℕ) where
  fits_step : i < n → rows_fit rows i (n - i) left ≡ (leb (count_at rows i) left && rows_fit rows (i + 1) (n - (i + 1)) (left - count_at rows i))
  unfolding rows_fit
  fits_step h = rw (left_more i n h) refl

  -- (the code's count is c)
  module _ (c : ℕ) (e : c ≡ count_at rows i) (h : i < n) where
    pub fits_more : c ≤ left → rows_fit rows i (n - i) left ≡ rows_fit rows (i + 1) (n - (i + 1)) (left - c)
    fits_more k = fits_step h ∙ rw (← e, le-leb c left k)

    pub fits_short : left < c → rows_fit rows i (n - i) left ≡ false
    fits_short k = fits_step h ∙ rw (← e, lt-leb c left k)

  pub fits_end : n ≤ i → rows_fit rows i (n - i) left ≡ eqb left 0
  unfolding rows_fit
  fits_end h = rw (left_none i n h) refl

  -- where they fit, the next one does
  pub fits_one : i < n → rows_fit rows i (n - i) left ≡ true → count_at rows i ≤ left
  fits_one h e = leb-true (count_at rows i) left (and_left (leb (count_at rows i) left) _ (sym (fits_step h) ∙ e))

-- (native ℕ does not compute `n - 0`)
pub fits_start : (rows : List ℕ) (n left : ℕ) → rows_fit rows 0 (n - 0) left ≡ rows_fit rows 0 n left
fits_start rows n left = ap (λ (k : ℕ). rows_fit rows 0 k left) (sub-zero n)
