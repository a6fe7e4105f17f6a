-- The sums of units by type, and the count of entries not available (document 02, request 9). Whatever the sums hold.
use Rattle.std.specs.Prelude.{ℕ, zero, suc, ◌+◌, cond, List, ◌==◌, slice_index, slice_set}
use Rattle.types.specs.declared.Units.{Units}
use Rattle.types.specs.declared.Entries.{Entries}
use Rattle.types.specs.Entries.{unit_at}
use Rattle.same_final.specs.Same.{up_to}
use Rattle.month_rows.specs.Rows.{plus}

-- an entry with a number adds it to the sum of its type, 0 for none; a type over 16 goes to 16, and no figure in range has one
abbrev pub add_unit : Units → List ℕ → List ℕ
add_unit u s = cond (u.known == 1) (slice_set s (up_to 16 u.kind) (plus 64 (slice_index s (up_to 16 u.kind)) u.number)) s

-- one not available is counted
abbrev pub add_absent : Units → ℕ → ℕ
add_absent u n = cond (u.known == 1) n (plus 32 n 1)

-- k entries, from i on
unfoldable pub sum_units : Entries → ℕ → ℕ → List ℕ → List ℕ
sum_units e i zero s = s
sum_units e i (suc k) s = sum_units e (i + 1) k (add_unit (unit_at e i) s)

unfoldable pub count_absent : Entries → ℕ → ℕ → ℕ → ℕ
count_absent e i zero n = n
count_absent e i (suc k) n = count_absent e (i + 1) k (add_absent (unit_at e i) n)
