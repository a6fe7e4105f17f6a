use Rattle.prelude.proofs.Prelude.{arith, lt-leb, lt-ltb, le-ltb}
use Rattle.coding.specs.{Reader.numbered_at, inner.Shown.shown}
use Rattle.read_lengths.proofs.one_more.Statement.{statement}
use Rattle.read_lengths.proofs.one_more.Tie as tie

pub one_more_spec : {M : Type 1} → statement M
unfolding numbered_at shown
one_more_spec =
    tie.close
    (tie.spec (omega arith) (omega arith)
    (λ c. let p = c.before.before.before.requires in rw c.halted.ensures (simp (lt-leb _ _ p.0, p.2, lt-ltb _ _ c.before.if-end-at.true), omega arith))
    (omega arith) (omega arith) (omega arith) (omega arith) (omega arith)
    (λ c.
    let e = c.before.before.before in
    let p = e.before.before.requires in
    (simp (lt-leb _ _ p.0, p.2, le-ltb _ _ e.if-end-at.false) (rw (← c.before.wide-n.ensures.0) c.within.ensures.0), c.within.ensures.1)))
