-- A month's totals, picked out of the list of figures that were added, the latest first: for each total those figures that count, then their sum.
use Rattle.std.specs.Prelude.{ℕ, ◌+◌, List, [], ◌∷◌, ◌++◌, map, Bool, true, false, not, ◌&&◌, ◌||◌, cond, length, eqb, leb}
use Rattle.coding.specs.Codec.{pad}
use Rattle.coding.specs.Rows.{table}
use Rattle.types.specs.declared.Charge.{Charge}
use Rattle.types.specs.declared.Currency.{Currency}
use Rattle.types.specs.declared.Units.{Units}
use Rattle.types.specs.Entries.{unit_list}
use Rattle.types.specs.Arguments.{is_kind}
use Rattle.amounts.specs.Currency.{equal_currency}
use Rattle.types.specs.Thousandths.{thousandths}
use Rattle.closing.specs.Range.{in_range}
use Rattle.month_rows.specs.declared.Row.{Row}
use Rattle.month_rows.specs.Rows.{zero_row}
use Rattle.month_rules.specs.declared.Month.{Month}
use Rattle.month_rules.specs.declared.Added.{Added}
use Rattle.month.specs.Add.{add_of}

-- a closing figure: its service (2 D, 3 E), and its charge
pub record Posted : Type 0 where
  pub service : ℕ
  pub charge : Charge

-- those that pass a test; the sum of a number over a list
abbrev pub which : {A : Type 0} → (A → Bool) → List A → List A
which t [] = []
which t (x ∷ l) = cond (t x) (x ∷ which t l) (which t l)

abbrev pub total : {A : Type 0} → (A → ℕ) → List A → ℕ
total f [] = 0
total f (x ∷ l) = f x + total f l

-- ---- which calls there are

abbrev pub is_money_call : Posted → Bool
is_money_call p = is_kind 2 p.charge

abbrev pub is_free_call : Posted → Bool
is_free_call p = is_kind 1 p.charge

abbrev pub is_unit_call : Posted → Bool
is_unit_call p = is_kind 3 p.charge

-- ---- for each currency, in order of first appearance, the number of calls and the sum in thousandths

abbrev pub currency_of : Posted → Currency
currency_of p = p.charge.figure.money.currency

abbrev pub amount_in : Posted → ℕ
amount_in p = thousandths p.charge.figure.money

abbrev pub in_currency : Currency → Posted → Bool
in_currency c p = is_money_call p && equal_currency c (currency_of p)

abbrev pub appears : Currency → List Currency → Bool
appears c [] = false
appears c (d ∷ l) = equal_currency d c || appears c l

-- a currency that none before is equal to comes last, as it was received
abbrev pub currencies : List Posted → List Currency
currencies [] = []
currencies (p ∷ h) = cond (is_money_call p && not (appears (currency_of p) (currencies h))) (currencies h ++ (currency_of p ∷ [])) (currencies h)

abbrev pub row_by : List Posted → Currency → Row
row_by h c = record { currency = c; unused = 0; calls = length (which (in_currency c) h); sum = total amount_in (which (in_currency c) h) }

abbrev pub rows_by : List Posted → List Row
rows_by h = map (row_by h) (currencies h)

-- ---- for each unit type, 0 for none, the sum of numbers; entries not available apart

abbrev pub entries_of : Posted → List Units
entries_of p = cond (is_unit_call p) (unit_list p.charge.entries p.charge.figure.count) []

abbrev pub of_type : ℕ → Units → Bool
of_type k u = eqb u.known 1 && eqb u.kind k

abbrev pub is_absent : Units → Bool
is_absent u = not (eqb u.known 1)

abbrev pub units_in : ℕ → Posted → ℕ
units_in k p = total (λ (u : Units). u.number) (which (of_type k) (entries_of p))

abbrev pub absent_in : Posted → ℕ
absent_in p = length (which is_absent (entries_of p))

-- ---- the table: service by billing identification, 8 for none

abbrev pub column_of : Posted → ℕ
column_of p = cond (eqb p.charge.figure.billed 0) 8 p.charge.figure.billing

abbrev pub in_place : ℕ → ℕ → Posted → Bool
in_place service column p = eqb p.service service && eqb (column_of p) column

abbrev pub line_by : List Posted → ℕ → List ℕ
line_by h service = table 9 (λ column. length (which (in_place service column) h))

-- ---- all of it; numbers are as large as they come, and nothing wraps

abbrev pub month_by : List Posted → Month
month_by h = record {
  added = length h;
  count = length (currencies h);
  absent = total absent_in h;
  free = length (which is_free_call h);
  units = table 17 (λ k. total (units_in k) h);
  rows = pad 16 zero_row (rows_by h);
  grid = record { cells = line_by h 2 ∷ line_by h 3 ∷ [] };
}

-- ---- which figures are added: the number that a figure gets after those that were added before it

abbrev pub number_after : List Posted → Posted → ℕ
number_after h p =
    cond (not (in_range p.service p.charge)) 10
    (cond (leb 4096 (length h)) 46
    (cond (is_money_call p && (not (appears (currency_of p) (currencies h)) && leb 16 (length (currencies h)))) 47 0))

abbrev pub kept_after : List Posted → Posted → List Posted
kept_after h p = cond (eqb (number_after h p) 0) (p ∷ h) h

-- those of a list, the earliest first, that are added after h
abbrev pub kept_through : List Posted → List Posted → List Posted
kept_through h [] = h
kept_through h (p ∷ l) = kept_through (kept_after h p) l

abbrev pub numbers_after : List Posted → List Posted → List ℕ
numbers_after h [] = []
numbers_after h (p ∷ l) = number_after h p ∷ numbers_after (kept_after h p) l

-- ---- the same by adding: each figure to the month that the one before left

abbrev pub added_to : Month → Posted → Added
added_to m p = add_of m p.service p.charge

abbrev pub add_all : Month → List Posted → Month
add_all m [] = m
add_all m (p ∷ l) = add_all (added_to m p).month l

abbrev pub numbers_of : Month → List Posted → List ℕ
numbers_of m [] = []
numbers_of m (p ∷ l) = (added_to m p).number ∷ numbers_of (added_to m p).month l

-- ---- for the theorems: no two currencies are equal; the first of each, in order; the list with the earliest first

abbrev pub all_differ : List Currency → Bool
all_differ [] = true
all_differ (c ∷ l) = not (appears c l) && all_differ l

abbrev pub firsts : List Currency → List Currency
firsts [] = []
firsts (c ∷ l) = c ∷ which (λ d. not (equal_currency c d)) (firsts l)

abbrev pub in_order : List Posted → List Posted
in_order [] = []
in_order (p ∷ h) = in_order h ++ (p ∷ [])
