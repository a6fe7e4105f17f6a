-- A closing figure for the front desk's screen, which takes doubles (IEEE 754 binary64) only.
use Rattle.std.specs.Prelude.{ℕ, false, not, cond, eqb, pos, Float}
use Rattle.std.specs.Float.{fin, binary64}
use Rattle.std.specs.Float.Ieee.{of_int, round}
use Rattle.types.specs.declared.Charge.{Charge}
use Rattle.types.specs.declared.Money.{Money}
use Rattle.types.specs.Charges.{no_currency}
use Rattle.types.specs.Arguments.{is_kind}
use Rattle.types.specs.Thousandths.{thousandths}
use Rattle.closing.specs.Range.{in_range}
use Rattle.price.specs.declared.Priced.{Priced}

-- a whole number cast to a double; `exact` (proofs/Exact.antt): of an amount's thousandths it is the number itself
unfoldable pub as_double : ℕ → Float
as_double n = of_int binary64 (pos n)

-- n / 1000, rounded once: the double that is nearest, at a tie the one whose last digit is even
unfoldable pub quotient_of : ℕ → Float
quotient_of n = round binary64 false n 1000

abbrev pub zero_double : Float
zero_double = fin false 0 (pos 0)

-- a number, a free mark, and zeros
abbrev pub no_amount : ℕ → ℕ → Priced
no_amount number free = record { number = number; free = free; currency = no_currency; thousandths = zero_double; quotient = zero_double }

-- the thousandths, exact; the quotient of that double by 1000; the currency as received
abbrev pub priced_money : Money → Priced
priced_money m = record { number = 0; free = 0; currency = m.currency; thousandths = as_double (thousandths m); quotient = quotient_of (thousandths m) }

-- 39 for no closing figure, 10 for one out of 01's ranges, 38 for a unit list, in that order; free gives zero and a free mark
unfoldable pub price_of : ℕ → Charge → Priced
price_of service c =
    cond (eqb service 0) (no_amount 39 0)
    (cond (not (in_range service c)) (no_amount 10 0)
    (cond (is_kind 3 c) (no_amount 38 0)
    (cond (is_kind 1 c) (no_amount 0 1) (priced_money c.figure.money))))
