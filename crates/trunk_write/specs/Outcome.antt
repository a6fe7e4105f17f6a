-- What writing a component of a trunk answers, and what it leaves in the buffer: as of any family, where the front's last four octets are zero.
use Rattle.std.specs.Prelude.{ℕ, List, Bool, ◌&&◌, cond, get_or, eqb}
use Rattle.std.specs.Borrow.{Bor}
use denote.Triple.Both.{Both}
use Rattle.types.specs.Stored.{stored_charge}
use Rattle.trunk_types.specs.declared.Trunk.{Trunk}
use Rattle.trunk_types.specs.Components.{trunk_component}
use Rattle.trunk_types.specs.Stored.{trunk_in}
use Rattle.write.specs.declared.Written.{Written}
use Rattle.write.specs.Outcome.{no, write_family, left_family}

-- ---- what is handed to the writer

-- octets 44 to 47 of the front, which hold nothing, are zero
abbrev pub spare_zero : List ℕ → Bool
spare_zero front = (eqb (get_or front 44 0) 0 && eqb (get_or front 45 0) 0) && (eqb (get_or front 46 0) 0 && eqb (get_or front 47 0) 0)

-- a component, and whether those octets of its front are zero
pub record Offered : Type 0 where
  pub trunk : Trunk
  pub spare : Bool

-- the one that lies in five lent arrays, by what they hold at the call
abbrev pub lent_trunk : (front extension figure numbers rows : Both (Bor (List ℕ)) (Bor (List ℕ))) → Offered
lent_trunk front extension figure numbers rows = record {
  trunk = trunk_in front.entry.now extension.entry.now (stored_charge figure.entry.now numbers.entry.now rows.entry.now);
  spare = spare_zero front.entry.now;
}

-- ---- what is answered and left

-- 10: a field out of range, or an unused place or field not zero; 11: the shortest form is over 254 octets; 12: it is over the buffer's length
unfoldable pub trunk_write_of : Offered → ℕ → Written
trunk_write_of o room = cond o.spare (write_family trunk_component o.trunk room) (no 10)

-- the shortest form and then what was there; or all that was there
unfoldable pub trunk_left_of : Offered → List ℕ → List ℕ
trunk_left_of o before = cond o.spare (left_family trunk_component o.trunk before) before
