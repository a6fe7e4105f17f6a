-- Writing by a profile octet: the record of the family that it names; 17, before all else, for another octet than 91 and 9F.
use Rattle.std.specs.Prelude.{ℕ, cond, List, eqb}
use Rattle.std.specs.Borrow.{Bor}
use denote.Triple.Both.{Both}
use Rattle.types.specs.declared.Record.{Record}
use Rattle.types.specs.Stored.{record_in}
use Rattle.write.specs.declared.Written.{Written}
use Rattle.write.specs.Outcome.{no, write_of, left_of}
use Rattle.trunk_write.specs.Outcome.{Offered, trunk_write_of, trunk_left_of}

-- the record of a public line that lies in four lent arrays, by what they hold at the call
abbrev pub lent_line : (front figure numbers rows : Both (Bor (List ℕ)) (Bor (List ℕ))) → Record
lent_line front figure numbers rows = record_in front.entry.now figure.entry.now numbers.entry.now rows.entry.now

unfoldable pub write_by : ℕ → Record → Offered → ℕ → Written
write_by profile r o room = cond (eqb profile 0x91) (write_of r room) (cond (eqb profile 0x9f) (trunk_write_of o room) (no 17))

unfoldable pub left_by : ℕ → Record → Offered → List ℕ → List ℕ
left_by profile r o before = cond (eqb profile 0x91) (left_of r before) (cond (eqb profile 0x9f) (trunk_left_of o before) before)
