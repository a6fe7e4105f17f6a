-- The octets of a trunk's figure that its kind uses. All others must be zero, as write_masks/specs/inner/Masks.antt has it.
use Rattle.std.specs.Prelude.{ℕ, Bool, true, ◌&&◌, cond, List, ◌++◌, get_or, eqb}
use Rattle.types.specs.Charges.{money}
use Rattle.types.specs.Stored.{money_in}
use Rattle.write_masks.specs.inner.Masks.{is_used, is_zero, with_money, without_money, bare_mask, clear_but}
use Rattle.trunk_write_tests.specs.inner.Fine.{kind_fine, is_billing}

-- money has no total and no arrangement
abbrev pub billed_mask : List ℕ
billed_mask = is_used 1 ++ (is_zero 1 ++ (is_used 2 ++ (is_zero 1 ++ is_used 1)))

abbrev pub billed_by : ℕ → ℕ → ℕ → Bool
billed_by k billed billing = cond (eqb billed 1) (is_billing k billing) (eqb 0 billed && eqb 0 billing)

-- all but the association and the list
unfoldable pub masked_fits : Bool → ℕ → List ℕ → Bool
masked_fits a k s =
    kind_fine k (get_or s 42 0)
    && cond (eqb (get_or s 42 0) 2) (clear_but (with_money a billed_mask) s && (billed_by k (get_or s 44 0) (get_or s 45 0) && (money true).valid (money_in s)))
    (clear_but (without_money a bare_mask) s)
