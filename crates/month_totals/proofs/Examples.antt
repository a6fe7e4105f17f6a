-- Cases of request 9, run by the definition: one statement over one table.
use Rattle.prelude.proofs.Prelude.{ℕ, ◌+◌, ◌≡◌, refl, List, [], ◌∷◌, ◌++◌, map, replicate, set, length}
use Rattle.coding.specs.{Contents.every, Codec.prim, Codec.cons, Codec.nothing, Codec.pair, Codec.alt, Codec.over, Codec.maybe, Codec.some_more, Codec.leaf_over, Codec.marked, Codec.sort}
use Rattle.coding.specs.{Codec.shape, Codec.canonical, Codec.pad, Codec.padded, Leaves.number, Leaves.string, Leaves.null_leaf, Leaves.integer, Leaves.identifier, Leaves.listing}
use Rattle.coding.specs.{Leaves.listed, Leaves.only, Leaves.given, Rows.rows, Rows.table}
use Rattle.types.specs.{declared.Charge.Charge, declared.Units.Units, Charges.kept, Charges.no_association, Charges.by_identifier, Charges.scaled}
use Rattle.types.specs.{Charges.currency_leaf, Charges.currency, Charges.money, Charges.digits_leaf, Charges.identified, Charges.planned, Charges.party_number, Charges.plain_party, Charges.party}
use Rattle.types.specs.{Charges.unassociated, Charges.association, Entries.unit, Entries.unit_rows, Arguments.bare, Arguments.plain, Arguments.list_figure, Arguments.totalled}
use Rattle.types.specs.{Arguments.associated, Arguments.sign, Arguments.in_money, Arguments.in_units, Arguments.during, Arguments.subtotals, Arguments.ending, Arguments.settled}
use Rattle.types.specs.{Arguments.with_association, Arguments.finals, Arguments.rates, Arguments.arrangement, Arguments.available, Arguments.charge_of}
use Rattle.amounts.specs.Currency.{trimmed, equal_currency}
use Rattle.closing.specs.Range.{in_range}
use Rattle.month_rows.specs.{declared.Row.Row, Rows.zero_row, Rows.row_of, Rows.raise, Sums.sum_units, Sums.count_absent}
use Rattle.month_rules.specs.{declared.Month.Month, Month.empty_month, Month.add_figure}
use Rattle.month.specs.Add.{add_of}
use Rattle.month_totals.specs.Totals.{Posted, add_all, numbers_of}

-- EUR, and so many octets more
abbrev pub euro : List ℕ → List ℕ
euro more = 0x45 ∷ 0x55 ∷ 0x52 ∷ more

abbrev pub space : List ℕ
space = 0x20 ∷ []

abbrev pub money_in : List ℕ → ℕ → ℕ → Charge
money_in text n m =
    plain (record {
      money = record { currency = kept text; multiplier = m; number = n };
      association = no_association;
      kind = 2;
      total = 0;
      billed = 0;
      billing = 0;
      arrangement = 0;
      count = 0;
    })

abbrev pub units_of : List Units → Charge
units_of l = record { figure = list_figure 3 (length l); entries = unit_rows l }

abbrev pub known_unit : ℕ → ℕ → Units
known_unit kind n = record { number = n; known = 1; kind = kind }

abbrev pub absent_unit : ℕ → Units
absent_unit kind = record { number = 0; known = 0; kind = kind }

-- a figure of D, a total; one of E
abbrev pub total_of_d : Charge → Posted
total_of_d c = record { service = 2; charge = totalled 1 0 0 c }

abbrev pub of_e : Charge → Posted
of_e c = record { service = 3; charge = c }

abbrev pub of_d : Charge → Posted
of_d c = record { service = 2; charge = c }

-- letters A to P
abbrev pub letters : List ℕ
letters = 0x41 ∷ 0x42 ∷ 0x43 ∷ 0x44 ∷ 0x45 ∷ 0x46 ∷ 0x47 ∷ 0x48 ∷ 0x49 ∷ 0x4a ∷ 0x4b ∷ 0x4c ∷ 0x4d ∷ 0x4e ∷ 0x4f ∷ 0x50 ∷ []

abbrev pub row : List ℕ → ℕ → ℕ → Row
row text calls sum = record { currency = kept text; unused = 0; calls = calls; sum = sum }

-- a line of the table with one place used
abbrev pub one : ℕ → ℕ → List ℕ
one b n = set (replicate 9 0) b n

abbrev pub no_line : List ℕ
no_line = replicate 9 0

abbrev pub holding : ℕ → List Row → List ℕ → ℕ → ℕ → List ℕ → List ℕ → Month
holding added rows units absent free line-d line-e = record {
  added = added;
  count = length rows;
  absent = absent;
  free = free;
  units = units;
  rows = pad 16 zero_row rows;
  grid = record { cells = line-d ∷ line-e ∷ [] };
}

abbrev pub no_units : List ℕ
no_units = replicate 17 0

-- ---- figures, the number that each is answered, and the month: equal currencies, as first received; units; free ones; figures out of range;
-- a seventeenth currency

abbrev Case : Type 0
Case = List Posted × (List ℕ × Month)

abbrev gives : List Posted → List ℕ → Month → Case
gives l numbers m = (l, (numbers, m))

unfoldable pub cases : List Case
cases =
    gives (total_of_d (money_in (euro []) 500 0) ∷ of_e (money_in (euro space) 50 1) ∷ total_of_d (money_in (euro (0x20 ∷ space)) 1 6) ∷ [])
    (0 ∷ 0 ∷ 0 ∷ []) (holding 3 (row (euro []) 3 1001000 ∷ []) no_units 0 0 (one 8 2) (one 8 1))
    ∷ gives (of_e (money_in (euro space) 5 0) ∷ total_of_d (money_in (euro []) 7 0) ∷ total_of_d (money_in (0x44 ∷ 0x4d ∷ []) 1 0) ∷ [])
    (0 ∷ 0 ∷ 0 ∷ []) (holding 3 (row (euro space) 2 12 ∷ row (0x44 ∷ 0x4d ∷ []) 1 1 ∷ []) no_units 0 0 (one 8 2) (one 8 1))
    ∷ gives (of_e (totalled 0 1 7 (units_of (known_unit 0 12 ∷ absent_unit 0 ∷ known_unit 3 5 ∷ absent_unit 3 ∷ known_unit 3 7 ∷ []))) ∷ [])
    (0 ∷ []) (holding 1 [] (set (set no_units 0 12) 3 12) 2 0 no_line (one 7 1))
    ∷ gives (of_d (bare 1) ∷ of_e (bare 1) ∷ of_e (associated (by_identifier 3) (bare 1)) ∷ []) (0 ∷ 0 ∷ 0 ∷ []) (holding 3 [] no_units 0 3 (one 8 1) (one 8 2))
    ∷ gives (total_of_d (money_in (euro []) 16777215 6) ∷ total_of_d (money_in (euro []) 16777216 0) ∷ of_d (totalled 1 1 3 (money_in (euro []) 500 0)) ∷ [])
    (0 ∷ 10 ∷ 10 ∷ []) (holding 1 (row (euro []) 1 16777215000000 ∷ []) no_units 0 0 (one 8 1) no_line)
    ∷ gives (map (λ (k : ℕ). total_of_d (money_in (k ∷ []) 1 0)) letters
    ++ (total_of_d (money_in (0x51 ∷ []) 1 0) ∷ total_of_d (money_in (0x41 ∷ space) 1 0) ∷ of_d (bare 1) ∷ []))
    (replicate 16 0 ++ (47 ∷ 0 ∷ 0 ∷ [])) (holding 18 (set (map (λ (k : ℕ). row (k ∷ []) 1 1) letters) 0 (row (0x41 ∷ []) 2 2)) no_units 0 1 (one 8 18) no_line)
    ∷ []

pub cases_right : map (λ (c : Case). (c.0, (numbers_of empty_month c.0, add_all empty_month c.0))) cases ≡ cases
unfolding
    cases add_of add_figure row_of raise sum_units count_absent equal_currency trimmed in_range every prim cons nothing pair alt over maybe some_more leaf_over marked sort shape canonical pad padded
    number string null_leaf integer identifier listing listed only given rows table scaled currency_leaf currency money digits_leaf identified planned party_number plain_party party
    unassociated association unit sign in_money in_units during subtotals ending settled with_association finals rates arrangement available charge_of
cases_right = refl
