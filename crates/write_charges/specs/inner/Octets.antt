-- The octets of an entry of units, part by part, and of a charge that holds a list.
use Rattle.std.specs.Prelude.{cond, ℕ, List, [], eqb}
use Rattle.coding.specs.inner.Written.{lead, full_number}
use Rattle.coding.specs.Codec.{write_all}
use Rattle.types.specs.declared.Units.{Units}
use Rattle.types.specs.declared.Figure.{Figure}
use Rattle.types.specs.declared.Entries.{Entries}
use Rattle.types.specs.Entries.{unit, unit_list}
use Rattle.write_figures.specs.inner.Octets.{framed, ended}

-- 02 number, or 05 00 where it is not available
unfoldable pub number_octets : Units → List ℕ
number_octets u = cond (eqb u.known 1) (full_number 0x02 u.number) (lead 0x05 0)

-- 02 type, or nothing
unfoldable pub type_octets : Units → List ℕ
type_octets u = cond (eqb u.kind 0) [] (full_number 0x02 u.kind)

-- a figure whose A1 holds units, of operation 34 or 36
abbrev pub units_charge : ℕ → Figure → Entries → List ℕ
units_charge o f e = ended o f (framed o f (write_all unit.write (unit_list e f.count)))
