-- A closing figure is added to a month (document 02, request 9), whatever the month holds.
use Rattle.std.specs.Prelude.{ℕ, not, ◌&&◌, cond, nat_le}
use Rattle.types.specs.declared.Charge.{Charge}
use Rattle.types.specs.Arguments.{is_kind}
use Rattle.closing.specs.Range.{in_range}
use Rattle.month_rules.specs.declared.Month.{Month}
use Rattle.month_rules.specs.declared.Added.{Added}
use Rattle.month_rules.specs.Month.{used, is_new, with_figure, with_place, added}

-- out of 01's ranges 10, one more when 4,096 are added 46, a seventeenth currency 47, in that order; such a figure is not added
unfoldable pub add_of : Month → ℕ → Charge → Added
add_of m service c =
    cond (not (in_range service c)) (added 10 m)
    (cond (nat_le 4096 m.added) (added 46 m)
    (cond (is_kind 2 c && (is_new m c.figure.money.currency && nat_le 16 (used m))) (added 47 m)
    (added 0 (with_place (with_figure m c) service c.figure.billed c.figure.billing))))
