-- What was read so far is answered, and the answers to the lines that ended in it are written.
use Rattle.std.specs.Io.KnownBytes.{Keeps}
use Rattle.lines_rules.specs.inner.Machine.{new_line}
use Rattle.lines.specs.inner.Ran.{Passed}
use Rattle.lines.proofs.all.Given as goal

abbrev pub invariant-loop : goal.invariant-loop
invariant-loop g l =
    Passed (g.R.Read.remaining l.fn.from) (g.R.Read.remaining l.from) (g.W.Write.contents l.fn.to) (g.W.Write.contents l.to) new_line l.fn.octets l.line l.octets
    × Keeps (g.E.Write.contents l.fn.errors) (g.E.Write.contents l.errors)
