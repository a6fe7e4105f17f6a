use Rattle.prelude.proofs.Prelude.{◌+◌, arith, le-leb, lt-leb}
use Rattle.coding.specs.{Reader.extent, inner.Shown.shown}
use Rattle.read_lengths.proofs.within.Statement.{statement}
use Rattle.read_lengths.proofs.within.Tie as tie

pub within_spec : {M : Type 1} → statement M
unfolding extent shown
within_spec =
    tie.close
    (tie.spec (omega arith) (omega arith)
    (λ c. let a = c.before.before.args in rw c.halted.ensures (simp (lt-leb (a.start + a.n) a.end (omega arith)), omega arith))
    (omega arith) (omega arith) (omega arith)
    (λ c. let a = c.before.before.args in rw c.found.ensures (simp (le-leb (a.start + a.n) a.end (omega arith)), omega arith)))
