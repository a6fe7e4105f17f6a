-- A record as its front and its charge. For the writer's inner functions.
use Rattle.std.specs.Prelude.{ℕ, List, [], ◌++◌, Bool, ◌&&◌, cond, length}
use Rattle.types.specs.declared.Record.{Record}
use Rattle.types.specs.declared.Charge.{Charge}
use Rattle.types.specs.Arguments.{no_charge, same_charge, charge_of}
use Rattle.types.specs.declared.Front.{Front}
use Rattle.write_heads.specs.inner.Fronts.{charged, front_fine, front_octets}

abbrev pub front_of : Record → Front
front_of r = r.front

abbrev pub record_of : Front → Charge → Record
record_of f c = record { front = f; charge = c }

-- the charge fits its front: one that may be written where it follows, else none
abbrev pub charge_fine : Front → Charge → Bool
charge_fine f c = cond (charged f) ((charge_of f.operation).valid c) (same_charge no_charge c)

abbrev pub fine_of : Front → Charge → Bool
fine_of f c = front_fine f && charge_fine f c

abbrev pub charge_octets : Front → Charge → List ℕ
charge_octets f c = cond (charged f) ((charge_of f.operation).write c) []

-- a frame's contents
abbrev pub body_of : Front → Charge → List ℕ
body_of f c = front_octets f (length (charge_octets f c)) ++ charge_octets f c
