-- What an entry of units, and the parts of an argument by its operation, are read as.
use Rattle.std.specs.Prelude.{ℕ, Bool, ◌&&◌, ◌||◌, cond, leb, eqb}
use Rattle.coding.specs.declared.Chosen.{Chosen}
use Rattle.coding.specs.declared.Extent.{Extent}
use Rattle.coding.specs.Reader.{Reader, choice, opened, ◌>>=◌, pure}
use Rattle.coding.specs.Reader.Ans.{got}
use Rattle.coding.specs.Codec.{prim}
use Rattle.coding.specs.Leaves.{number, null_leaf, given}
use Rattle.types.specs.declared.Units.{Units}
use Rattle.types.specs.Entries.{no_units}

-- 02 number or 05 00: an entry of units but for its type
unfoldable pub unit_number : Reader Units
unit_number =
    choice 0x05 ((prim 0x05 null_leaf).read >>= (λ u. pure no_units))
    ((prim 0x02 (number 0 16777215)).read >>= (λ n. pure (record { number = n; known = 1; kind = 0 })))

-- 30 to 32 hand over no figure
abbrev pub is_tariff : ℕ → Bool
is_tariff o = leb 30 o && leb o 32

-- 33 and 34 hand over subtotals and totals, 35 and 36 finals
abbrev pub is_subtotal : ℕ → Bool
is_subtotal o = eqb o 33 || eqb o 34

-- 35 and 33 hand over money, 36 and 34 units
abbrev pub is_money : ℕ → Bool
is_money o = eqb o 35 || eqb o 33

-- 35 and 36 have a 30 around the charge
unfoldable pub framed_by : Bool → Reader Extent
framed_by subtotal s at end = cond subtotal (got (record { start = at; stop = end }) end) (opened 0x30 s at end)

-- 33 and 34 have a type
unfoldable pub type_by : Bool → Reader ℕ
type_by subtotal s at end = cond subtotal ((prim 0x82 (number 0 1)).read s at end) (got 0 at)

-- optional billing
unfoldable pub billing_by : Bool → Reader Chosen
billing_by subtotal s at end = cond subtotal ((given 0x83 (number 0 2)).read s at end) ((given 0x82 (number 0 7)).read s at end)
