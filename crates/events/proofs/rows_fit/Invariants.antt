-- The rows left fit what is left where all rows fit the whole.
use Rattle.std.proofs.Common.{◌-◌, ◌/◌, ◌≡◌, length}
use Rattle.events.specs.Events.{rows_fit}
use Rattle.events.proofs.rows_fit.Given as goal

abbrev pub invariant-loop-i : goal.invariant-loop-i
invariant-loop-i l = rows_fit l.rows l.i (length l.rows / 6 - l.i) l.left ≡ rows_fit l.rows 0 (length l.rows / 6) l.total
