-- The lengths left fit what is left where all lengths fit the whole.
use Rattle.std.proofs.Common.{◌-◌, ◌/◌, ◌≡◌, length}
use Rattle.trace_framing.specs.Framing.{lengths_fit}
use Rattle.trace_framing.proofs.lengths_fit.Given as goal

abbrev pub invariant-loop-i : goal.invariant-loop-i
invariant-loop-i l = lengths_fit l.pairs l.i (length l.pairs / 2 - l.i) l.left ≡ lengths_fit l.pairs 0 (length l.pairs / 2) l.total
