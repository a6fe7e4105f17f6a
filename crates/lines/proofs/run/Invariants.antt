-- The characters passed have left what is at hand, and the answers to the lines that ended are put. The measure is what is left.
-- Where out has no more room, some answer was put, so some character was passed.
use Rattle.std.proofs.Common.{ℕ, ◌≤◌, ◌*◌, ◌-◌, ◌≡◌, List, ◌++◌, length}
use Rattle.coding.specs.{Reader.part, inner.Written.Wrote}
use Rattle.lines_rules.specs.inner.Machine.{state, turns}
use Rattle.lines.proofs.run.Given as goal

abbrev pub invariant-loop-at : goal.invariant-loop-at
invariant-loop-at l =
    (l.at ≤ length l.s) × (l.from ≤ l.at) × (l.used ≤ 65536) × (l.used ≤ 65536 * (l.at - l.from))
    × (text : List ℕ) × Wrote l.fn.out l.out 0 text l.used
    × ((t : List ℕ) → turns (state l.fn.l l.fn.octets t) (part l.s l.from l.at) ≡ state l.line l.octets (t ++ text))

abbrev pub decreases-loop-at : goal.decreases-loop-at
decreases-loop-at l = length l.s - l.at
