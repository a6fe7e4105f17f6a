-- So much is written. The measure is what is left.
use Rattle.std.proofs.Common.{◌≤◌, ◌-◌, take, length}
use Rattle.std.specs.Io.KnownBytes.{Appends}
use Rattle.lines.proofs.written.Given as goal

abbrev pub invariant-loop-at : goal.invariant-loop-at
invariant-loop-at g l = (l.at ≤ l.used) × (l.used ≤ length l.out) × Appends (g.W.Write.contents l.fn.to) (g.W.Write.contents l.to) (take l.at l.out)

abbrev pub decreases-loop-at : goal.decreases-loop-at
decreases-loop-at g l = l.used - l.at
