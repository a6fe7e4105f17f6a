-- The characters passed are heard, and none of them ended the line. The measure is what is left.
use Rattle.std.proofs.Common.{ℕ, ◌≤◌, ◌-◌, ◌≡◌, List, length}
use Rattle.coding.specs.Reader.{part}
use Rattle.lines_rules.specs.inner.Machine.{state, turns}
use Rattle.lines_rules.proofs.take_line.Given as goal

abbrev pub invariant-loop-at : goal.invariant-loop-at
invariant-loop-at l =
    (l.at ≤ length l.s) × (l.initial.at ≤ l.at)
    × ((t : List ℕ) → turns (state l.initial.line l.initial.octets t) (part l.s l.initial.at l.at) ≡ state l.line l.octets t)

abbrev pub decreases-loop-at : goal.decreases-loop-at
decreases-loop-at l = length l.s - l.at
