use Rattle.prelude.proofs.Prelude.{arith, lt-leb, lt-ltb, le-ltb}
use Rattle.coding.specs.{Reader.numbered_at, inner.Shown.shown}
use Rattle.read_lengths.proofs.two_more.Statement.{statement}
use Rattle.read_lengths.proofs.two_more.Tie as tie

pub two_more_spec : {M : Type 1} → statement M
unfolding numbered_at shown
two_more_spec =
    tie.close
    (tie.spec (omega arith) (omega arith)
    (λ c. let p = c.before.before.before.requires in rw c.halted.ensures (simp (lt-leb _ _ p.0, p.2, lt-ltb _ _ c.before.if-end-at.true), omega arith))
    (omega arith) (omega arith) (omega arith) (λ c. omega arith) (omega arith) (omega arith) (omega arith) (λ c. omega arith) (omega arith) (omega arith)
    (λ c.
    let w = c.before.before.before in
    let e = w.before.before in
    let p = e.before.before.requires in
    (simp (lt-leb _ _ p.0, p.2, le-ltb _ _ e.if-end-at.false) (rw (← w.wide.ensures.0, ← c.before.wide-2.ensures.0) c.within.ensures.0), c.within.ensures.1)))
