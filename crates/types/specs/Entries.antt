-- Lists of units, and how entries are laid in rows.
use Rattle.std.specs.Prelude.{ℕ, ◌+◌, ◌*◌, List, [], ◌∷◌, Bool, ◌&&◌, cond, ◌⊎◌, get_or, replicate, eqb}
use Rattle.std.proofs.Common.{inl, inr}
use Rattle.std.proofs.Math.Option.{Option, none, some}
use Rattle.coding.specs.Codec.{Run, prim, cons, pair, alt, maybe, canonical, pad}
use Rattle.coding.specs.Leaves.{number, null_leaf, or0}
use Rattle.coding.specs.Rows.{rows, table}
use Rattle.types.specs.declared.Units.{Units}
use Rattle.types.specs.declared.Entries.{Entries}

abbrev pub no_entries : Entries
no_entries = record { numbers = replicate 32 0; octets = replicate 192 0 }

-- ---- one entry: 02 number or 05 00; optional 02 type 1 to 16

abbrev pub no_units : Units
no_units = record { number = 0; known = 0; kind = 0 }

abbrev pub units_to : (Unit {0} ⊎ ℕ) × Option ℕ → Units
units_to p = units_by p.0 (or0 p.1)
  where
    units_by : Unit {0} ⊎ ℕ → ℕ → Units
    units_by (inl u) k = record { number = 0; known = 0; kind = k }
    units_by (inr n) k = record { number = n; known = 1; kind = k }

abbrev pub units_from : Units → (Unit {0} ⊎ ℕ) × Option ℕ
units_from u = (cond (eqb u.known 1) (inr u.number) (inl tt), cond (eqb u.kind 0) none (some u.kind))

abbrev pub same_units : Units → Units → Bool
same_units u v = eqb u.number v.number && (eqb u.known v.known && eqb u.kind v.kind)

unfoldable pub unit : Run Units
unit =
    cons 0x30 (canonical units_to units_from same_units
    (pair (alt 0x05 (prim 0x05 null_leaf) (prim 0x02 (number 0 16777215))) (maybe 0x02 (prim 0x02 (number 1 16)))))

-- ---- the rows of an entry, and the entry of rows

abbrev pub unit_numbers : Units → List ℕ
unit_numbers u = u.number ∷ []

abbrev pub unit_octets : Units → List ℕ
unit_octets u = u.known ∷ u.kind ∷ []

abbrev pub unit_at : Entries → ℕ → Units
unit_at e i = record { number = get_or e.numbers i 0; known = get_or e.octets (2 * i) 0; kind = get_or e.octets (2 * i + 1) 0 }

abbrev pub unit_rows : List Units → Entries
unit_rows xs = record { numbers = pad 32 0 (rows unit_numbers xs); octets = pad 192 0 (rows unit_octets xs) }

abbrev pub unit_list : Entries → ℕ → List Units
unit_list e n = table n (unit_at e)
