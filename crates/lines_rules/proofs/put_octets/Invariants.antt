-- What is put and the text of the octets left make the whole text. The measure is what is left.
use Rattle.std.proofs.Common.{ℕ, ◌≤◌, ◌+◌, ◌*◌, ◌-◌, ◌≡◌, List, ◌++◌}
use Rattle.coding.specs.{Reader.part, inner.Written.Wrote}
use Rattle.lines_rules.specs.Text.{hex_text}
use Rattle.lines_rules.proofs.put_octets.Given as goal

abbrev pub invariant-loop-i : goal.invariant-loop-i
invariant-loop-i l =
    (l.i ≤ l.last) × (l.at ≡ l.from + 3 * l.i)
    × (pre : List ℕ) × Wrote l.fn.out l.out l.from pre l.at × (pre ++ hex_text (part l.octets l.i l.n) ≡ hex_text (part l.octets 0 l.n))

abbrev pub decreases-loop-i : goal.decreases-loop-i
decreases-loop-i l = l.last - l.i
