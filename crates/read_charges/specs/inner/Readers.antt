-- What the readers of charges read: operations 33 to 36 by one set of functions.
use Rattle.std.specs.Prelude.{ℕ, Bool, false}
use Rattle.coding.specs.Codec.{Run, pick_run}
use Rattle.coding.specs.Leaves.{number}
use Rattle.types.specs.declared.Charge.{Charge}
use Rattle.types.specs.Arguments.{in_money, in_units, during, subtotals, ending, settled, finals}
use Rattle.read_unit.specs.inner.Readers.{is_subtotal, is_money}

-- what A1 holds
unfoldable pub amount_by : ℕ → Run Charge
amount_by o = pick_run (is_money o) (in_money false) in_units

-- The parts of 33 and 34, and of 35 and 36, whatever A1 holds.

-- the 30 with A1, type and billing
unfoldable pub priced_by : Bool → Run Charge → Run Charge
priced_by subtotal f = pick_run subtotal (during f) (ending (number 0 7) f)

-- 81 00 free, or that 30
unfoldable pub settled_by : Bool → Run Charge → Run Charge
settled_by subtotal f = pick_run subtotal (subtotals f) (settled (number 0 7) f)

-- the whole argument
unfoldable pub figure_by : Bool → Run Charge → Run Charge
figure_by subtotal f = pick_run subtotal (subtotals f) (finals f)

-- the same by the operation
abbrev pub priced_of : ℕ → Run Charge
priced_of o = priced_by (is_subtotal o) (amount_by o)

abbrev pub settled_of : ℕ → Run Charge
settled_of o = settled_by (is_subtotal o) (amount_by o)

abbrev pub figure_of : ℕ → Run Charge
figure_of o = figure_by (is_subtotal o) (amount_by o)
