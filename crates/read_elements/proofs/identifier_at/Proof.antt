use Rattle.prelude.proofs.Prelude.{◌-◌, arith, take_all, length, length-take}
use Rattle.coding.specs.Leaves.{identifier}
use Rattle.read_elements.proofs.{Shortcut.tiny_shown, identifier_at.Statement.statement}
use Rattle.read_elements.proofs.identifier_at.Tie as tie

pub identifier_at_spec : {M : Type 1} → statement M
unfolding identifier
identifier_at_spec =
    tie.close
    (tie.spec (omega arith) (omega arith) (omega arith) (λ c. let t = c.before in omega (arith, (t.before.tiny-x.ensures.1.1 t.if-x-lt256.true).inside))
    (λ c κs. tt)
    (λ c.
    let p = c.before in
    let t = p.before in
    rw c.number.ensures
    (tiny_shown _ _ _ _ _ identifier (omega arith) (t.before.tiny-x.ensures.1.1 t.if-x-lt256.true) p.pattern-value.ensures.0, omega (arith, p.pattern-value.ensures.1)))
    (omega arith) (λ c. omega arith) (λ c. omega arith)
    (λ c κs. simp (length-take) (omega (arith, c.before.before.before.before.requires)))
    (λ c. let xs = c.before.before.before.before.before.args.s.now in rw (take_all (length xs - 0) xs (omega arith)) at c.identifier_long.ensures))
