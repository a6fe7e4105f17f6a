-- A closing figure that is in range is added to a month (document 02, request 9), whatever the month holds.
use Rattle.std.specs.Prelude.{ℕ, ◌+◌, Bool, cond, ◌&&◌, replicate, ◌==◌, nat_le}
use Rattle.types.specs.declared.Charge.{Charge}
use Rattle.types.specs.declared.Currency.{Currency}
use Rattle.types.specs.declared.Money.{Money}
use Rattle.types.specs.declared.Entries.{Entries}
use Rattle.types.specs.Arguments.{is_kind}
use Rattle.types.specs.Thousandths.{thousandths}
use Rattle.same_final.specs.Same.{up_to}
use Rattle.month_rows.specs.Rows.{plus, zero_row, row_of, raise}
use Rattle.month_rows.specs.Sums.{sum_units, count_absent}
use Rattle.month_rows.specs.Places.{placed}
use Rattle.month_rules.specs.declared.Month.{Month}
use Rattle.month_rules.specs.declared.Added.{Added}

abbrev pub empty_month : Month
empty_month = record {
  added = 0;
  count = 0;
  absent = 0;
  free = 0;
  units = replicate 17 0;
  rows = replicate 16 zero_row;
  grid = record { cells = replicate 2 (replicate 9 0) };
}

-- how many rows are used: a count over 16 reads as 16
abbrev pub used : Month → ℕ
used m = up_to 16 m.count

-- no row has this currency
abbrev pub is_new : Month → Currency → Bool
is_new m c = row_of c (used m) m.rows == used m

-- ---- a figure is added by its kind

abbrev pub with_money : Month → Money → Month
with_money m x = record {
  added = m.added;
  count = cond (is_new m x.currency) (used m + 1) m.count;
  absent = m.absent;
  free = m.free;
  units = m.units;
  rows = raise x.currency (thousandths x) (used m) m.rows;
  grid = m.grid;
}

abbrev pub with_free : Month → Month
with_free m = record { added = m.added; count = m.count; absent = m.absent; free = plus 32 m.free 1; units = m.units; rows = m.rows; grid = m.grid }

-- the first n entries
abbrev pub with_units : Month → Entries → ℕ → Month
with_units m e n = record {
  added = m.added;
  count = m.count;
  absent = count_absent e 0 n m.absent;
  free = m.free;
  units = sum_units e 0 n m.units;
  rows = m.rows;
  grid = m.grid;
}

abbrev pub with_figure : Month → Charge → Month
with_figure m c =
    cond (is_kind 2 c) (with_money m c.figure.money)
    (cond (is_kind 1 c) (with_free m) (with_units m c.entries (up_to 32 c.figure.count)))

-- and each, whatever its kind, counts in the table
abbrev pub with_place : Month → ℕ → ℕ → ℕ → Month
with_place m service billed billing = record {
  added = plus 32 m.added 1;
  count = m.count;
  absent = m.absent;
  free = m.free;
  units = m.units;
  rows = m.rows;
  grid = placed m.grid service billed billing;
}

abbrev pub added : ℕ → Month → Added
added n m = record { number = n; month = m }

-- one more when 4,096 are added 46, a seventeenth currency 47, in that order; such a figure is not added
unfoldable pub add_figure : Month → ℕ → Charge → Added
add_figure m service c =
    cond (nat_le 4096 m.added) (added 46 m)
    (cond (is_kind 2 c && (is_new m c.figure.money.currency && nat_le 16 (used m))) (added 47 m)
    (added 0 (with_place (with_figure m c) service c.figure.billed c.figure.billing)))
