-- A component with its element's profile octet: 91 reads document 01's family, 9F the trunks', any other is 17, before all else.
use Rattle.std.specs.Prelude.{ℕ, cond, List, eqb}
use Rattle.std.specs.Borrow.{MutBor}
use denote.Triple.Both.{Both}
use Rattle.types.specs.declared.Record.{Record}
use Rattle.types.specs.declared.Answer.{Answer}
use Rattle.types.specs.Stored.{record_in, stored_charge}
use Rattle.types.specs.Frames.{no_record, read_of}
use Rattle.trunk_types.specs.declared.Trunk.{Trunk}
use Rattle.trunk_types.specs.declared.TrunkAnswer.{TrunkAnswer}
use Rattle.trunk_types.specs.Components.{no_trunk, read_trunk}
use Rattle.trunk_types.specs.Stored.{trunk_in}
use Rattle.profile_read.specs.declared.Judged.{Judged}

-- number, offset, the family that the octet names (1 of public lines, 2 of trunks, 0 none), and a record of each family, of which one at least is zero
pub record Either : Type 0 where
  pub number : ℕ
  pub offset : ℕ
  pub family : ℕ
  pub line : Record
  pub trunk : Trunk

abbrev pub of_line : Answer → Either
of_line a = record { number = a.number; offset = a.offset; family = 1; line = a.value; trunk = no_trunk }

abbrev pub of_trunk : TrunkAnswer → Either
of_trunk a = record { number = a.number; offset = a.offset; family = 2; line = no_record; trunk = a.value }

abbrev pub of_none : ℕ → Either
of_none n = record { number = n; offset = 0; family = 0; line = no_record; trunk = no_trunk }

unfoldable pub read_by : ℕ → List ℕ → Either
read_by profile s = cond (eqb profile 0x91) (of_line (read_of s)) (cond (eqb profile 0x9f) (of_trunk (read_trunk s)) (of_none 17))

-- ---- as it lies in the caller's parts

-- the record of a public line that lies in four lent arrays, and that of a trunk in five, by what they hold at the return
abbrev pub left_line : (front figure numbers rows : Both (MutBor (List ℕ)) (MutBor (List ℕ))) → Record
left_line front figure numbers rows = record_in front.exit.now figure.exit.now numbers.exit.now rows.exit.now

abbrev pub left_trunk : (front extension figure numbers rows : Both (MutBor (List ℕ)) (MutBor (List ℕ))) → Trunk
left_trunk front extension figure numbers rows =
    trunk_in front.exit.now extension.exit.now (stored_charge figure.exit.now numbers.exit.now rows.exit.now)

-- what is answered by value, and the two records
abbrev pub either_in : Judged → Record → Trunk → Either
either_in r line trunk = record { number = r.number; offset = r.offset; family = r.family; line = line; trunk = trunk }
