-- A trunk's component as it lies in the caller's five parts: a front of 48 octets, an extension of 244, a figure of 48 and a list's two arrays.
-- Of the front: 0 to 7 the lead, 8 the count of the modes and 9 to 15 the modes, 16 to 41 the user (where a figure has its association), 42 detail, 43 entity;
-- 44 to 47 are zero.
use Rattle.std.specs.Prelude.{ℕ, ◌≡◌, List, get_or, drop, replicate}
use Rattle.coding.specs.Reader.{part}
use Rattle.types.specs.declared.Charge.{Charge}
use Rattle.types.specs.Stored.{two, association_in, stored_charge}
use Rattle.trunk_types.specs.declared.Extension.{Extension}
use Rattle.trunk_types.specs.declared.Modes.{Modes}
use Rattle.trunk_types.specs.declared.Lead.{Lead}
use Rattle.trunk_types.specs.declared.Body.{Body}
use Rattle.trunk_types.specs.declared.Trunk.{Trunk}
use Rattle.trunk_types.specs.declared.Parts.{Parts}
use Rattle.trunk_types.specs.Bodies.{body_by}
use Rattle.trunk_types.specs.Components.{lead_by, trunk_by}

-- the last four octets of the front
abbrev pub Spare : List ℕ → Type 0
Spare front = drop 44 front ≡ replicate 4 0

abbrev pub extension_in : List ℕ → Extension
extension_in s = record { kind = get_or s 0 0; count = get_or s 1 0; octets = drop 2 s }

abbrev pub modes_in : List ℕ → Modes
modes_in s = record { count = get_or s 8 0; places = part s 9 16 }

abbrev pub lead_in : List ℕ → Lead
lead_in s = lead_by (get_or s 0 0) (get_or s 1 0) (two s 2) (two s 4) (get_or s 6 0) (get_or s 7 0)

unfoldable pub body_in : List ℕ → List ℕ → Charge → Body
body_in front extension charge =
    body_by (get_or front 42 0) (get_or front 43 0) (modes_in front) (association_in front) (extension_in extension) charge

unfoldable pub trunk_in : List ℕ → List ℕ → Charge → Trunk
trunk_in front extension charge = trunk_by (lead_in front) (body_in front extension charge)

-- ---- what lies in lent parts

abbrev pub lent_charge : Parts → Charge
lent_charge p = stored_charge p.figure.now p.numbers.now p.rows.now

abbrev pub trunk_of : Parts → Trunk
trunk_of p = trunk_in p.front.now p.extension.now (lent_charge p)
