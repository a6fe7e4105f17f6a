use Rattle.prelude.proofs.Prelude.{rules, arith, le-leb, lt-leb, lt-ltb, le-ltb, ne_eqb}
use Rattle.coding.specs.{Reader.numbered_at, inner.Shown.shown}
use Rattle.read_lengths.proofs.numbered_at.Statement.{statement}
use Rattle.read_lengths.proofs.numbered_at.Tie as tie

pub numbered_at_spec : {M : Type 1} → statement M
unfolding numbered_at shown
numbered_at_spec =
    tie.close
    (tie.spec (omega arith) (λ c. rw c.halted.ensures (simp (le-leb _ _ c.before.if-end-at.true), omega arith)) (omega arith) (omega arith) (omega arith)
    (omega arith)
    (λ c.
    let w = c.before.before in
    (rw (← w.wide-first.ensures.0) (simp (lt-leb _ _ w.before.before.if-end-at.false, lt-ltb _ _ c.before.if-first-lt128.true) c.within.ensures.0), c.within.ensures.1))
    (omega arith) (omega arith) (omega arith) (λ c. search rules) (λ c. search rules)
    (λ c.
    let f = c.before.before in
    let w = f.before in
    let none = c.before.in_default.in_default-own.rest in
    rw (c.halted-in_default.ensures, ← w.wide-first.ensures.0)
    (simp (lt-leb _ _ w.before.before.if-end-at.false, le-ltb _ _ f.if-first-lt128.false, ne_eqb _ _ none.0.1, ne_eqb _ _ none.1), omega arith)))
