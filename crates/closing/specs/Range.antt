-- When a closing figure is in 01's ranges: it is of D or E, and a charge other than "not available"
-- that may be written as the argument of 33 or 34 for D, of 35 or 36 for E, by its form.
use Rattle.std.specs.Prelude.{ℕ, Bool, not, ◌&&◌, ◌||◌, cond, eqb}
use Rattle.types.specs.declared.Charge.{Charge}
use Rattle.types.specs.Arguments.{is_kind, charge_of}

-- services: 2 D, 3 E
abbrev pub closing_service : ℕ → Bool
closing_service service = eqb service 2 || eqb service 3

-- units, kind 3, have an operation of their own
abbrev pub operation_of : ℕ → ℕ → ℕ
operation_of service kind = cond (eqb service 2) (cond (eqb kind 3) 34 33) (cond (eqb kind 3) 36 35)

unfoldable pub in_range : ℕ → Charge → Bool
in_range service c = closing_service service && (not (is_kind 0 c) && (charge_of (operation_of service c.figure.kind)).valid c)
