-- The theorems on a month. Assumes nothing.
use Rattle.prelude.proofs.{Prelude.{ℕ, ◌+◌, ◌≤◌, ◌≡◌, refl, ap₂, List, [], ◌∷◌, map, true, not, ◌&&◌, leb, leb-false, arith, length}, Ways.by_cases}
use Rattle.types.specs.{declared.Charge.Charge, declared.Currency.Currency, Arguments.is_kind}
use Rattle.closing.specs.Range.{in_range}
use Rattle.month_rows.specs.declared.Row.{Row}
use Rattle.month_rules.specs.{declared.Month.Month, Month.{empty_month, used, is_new, add_figure}}
use Rattle.month.specs.Add.{add_of}
use Rattle.month_totals.specs.Totals.{Posted, which, total, currency_of, amount_in, is_money_call, is_unit_call, in_currency, appears, currencies, units_in, absent_in, month_by, kept_after}
use Rattle.month_totals.specs.Totals.{kept_through, numbers_after, added_to, add_all, numbers_of, all_differ, firsts, in_order}
use Rattle.month_totals.proofs.{Rows.differ, Ranges.{AllFine, none}, Filled.sum_small, Units.{units_small, absent_small}}
use Rattle.month_totals.proofs.Whole.{Totals, stands, still_fine, empty_totals, whole}
use Rattle.month_totals.proofs.Sums.{sum, padded_calls, kinds_add_up, places_add_up, first_order}

-- ---- a figure that is refused leaves the month as it was, whatever the month holds

pub refused_stays : (m : Month) (service : ℕ) (c : Charge) → ((add_of m service c).number ≡ 0 → ⊥) → (add_of m service c).month ≡ m
unfolding add_of add_figure
refused_stays m service c e =
    by_cases (not (in_range service c)) (λ q. rw q refl)
    (λ q. by_cases (leb 4096 m.added) (λ l. rw (q, l) refl)
    (λ l. by_cases (is_kind 2 c && (is_new m c.figure.money.currency && leb 16 (used m))) (λ n. rw (q, l, n) refl)
    (λ n. absurd (e (rw (q, l, n) refl)))))

-- ---- over any list of figures, refused ones among them

record Stand (m : Month) (h l : List Posted) : Type 0 where
  month : Totals (add_all m l) (kept_through h l)
  numbers : numbers_of m l ≡ numbers_after h l
  fine : AllFine (kept_through h l)
  few : length (kept_through h l) ≤ 4096

kept_few : (h : List Posted) (p : Posted) → length h ≤ 4096 → length (kept_after h p) ≤ 4096
kept_few h p few =
    by_cases (not (in_range p.service p.charge)) (λ q. rw q few)
    (λ q. by_cases (leb 4096 (length h)) (λ l. rw (q, l) few)
    (λ l. by_cases (is_money_call p && (not (appears (currency_of p) (currencies h)) && leb 16 (length (currencies h)))) (λ n. rw (q, l, n) few)
    (λ n. let less = leb-false 4096 (length h) l in rw (q, l, n) (omega arith))))

all_stand : (l : List Posted) (m : Month) (h : List Posted) → Totals m h → AllFine h → length h ≤ 4096 → Stand m h l
all_stand [] m h t fine few = record { month = t; numbers = refl; fine = fine; few = few }
all_stand (p ∷ l) m h t fine few =
    let s = stands m h p t fine in
    let r = all_stand l (added_to m p).month (kept_after h p) s.month (still_fine m h p t fine) (kept_few h p few) in
    record { month = r.month; numbers = ap₂ (λ (x : ℕ) (y : List ℕ). x ∷ y) s.number r.numbers; fine = r.fine; few = r.few }

module _ (l : List Posted) where
  abbrev kept : List Posted
  kept = kept_through [] l

  abbrev month : Month
  month = add_all empty_month l

  from_empty : Stand empty_month [] l
  from_empty = all_stand l empty_month [] empty_totals none (omega arith)

  -- from the empty month on, each total is the one picked out of the figures that were added, and none has wrapped
  pub month_totals : month ≡ month_by kept
  month_totals = whole month kept from_empty.month

  -- and each figure has the number that the rules give it
  pub month_numbers : numbers_of empty_month l ≡ numbers_after [] l
  month_numbers = from_empty.numbers

  -- how large a total can be
  pub calls_bound : length kept ≤ 4096
  calls_bound = from_empty.few

  pub sum_bound : (c : Currency) → total amount_in (which (in_currency c) kept) ≤ 68719472640000000
  sum_bound c = let z = sum_small (in_currency c) from_empty.fine in let y = calls_bound in omega (arith, z, y)

  pub units_bound : (k : ℕ) → total (units_in k) kept ≤ 2199023124480
  units_bound k = let z = units_small k from_empty.fine in let y = calls_bound in omega (arith, z, y)

  pub absent_bound : total absent_in kept ≤ 131072
  absent_bound = let z = absent_small from_empty.fine in let y = calls_bound in omega (arith, z, y)

  -- the calls of all rows, the free calls and the unit calls are all
  pub calls_add_up : total (λ (r : Row). r.calls) month.rows + month.free + length (which is_unit_call kept) ≡ month.added
  calls_add_up = rw month_totals (omega (arith, padded_calls kept, kinds_add_up from_empty.fine))

  -- so are the places of the table
  pub table_adds_up : total sum month.grid.cells ≡ month.added
  table_adds_up = rw month_totals (omega (arith, places_add_up from_empty.fine))

  -- no two rows have equal currencies
  pub no_currency_twice : all_differ (currencies kept) ≡ true
  no_currency_twice = differ kept

  -- the rows stand in order of first appearance
  pub first_appearance : currencies kept ≡ firsts (map currency_of (which is_money_call (in_order kept)))
  first_appearance = first_order kept
