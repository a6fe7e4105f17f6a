-- The characters passed have left what is at hand, and the answers to the lines that ended are written. The measure is what is left.
use Rattle.std.proofs.Common.{◌≤◌, ◌-◌, length}
use Rattle.std.specs.Io.KnownBytes.{Keeps}
use Rattle.coding.specs.Reader.{part}
use Rattle.lines.specs.inner.Ran.{Told}
use Rattle.lines.proofs.chunk.Given as goal

abbrev pub invariant-loop-at : goal.invariant-loop-at
invariant-loop-at g l = (l.at ≤ length l.s) × Told (part l.s 0 l.at) l.fn.l l.fn.octets l.line l.octets (g.W.Write.contents l.fn.to) (g.W.Write.contents l.to)
    × Keeps (g.E.Write.contents l.fn.errors) (g.E.Write.contents l.errors)

abbrev pub decreases-loop-at : goal.decreases-loop-at
decreases-loop-at g l = length l.s - l.at
