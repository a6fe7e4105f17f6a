use Rattle.prelude.proofs.Prelude.{◌-◌, arith, take_all, length, length-take}
use Rattle.read_elements.proofs.{Shortcut.bare_null, null_at.Statement.statement}
use Rattle.read_elements.proofs.null_at.Tie as tie

pub null_at_spec : {M : Type 1} → statement M
null_at_spec =
    tie.close
    (tie.spec (omega arith) (λ c. omega (arith, (c.before.short_length.ensures.1.1 (omega arith)).inside))
    (λ c κs. tt)
    (λ c.
    let t = c.before in
    rw c.reached.ensures (bare_null _ _ _ _ _ (t.before.short_length.ensures.1.1 (omega arith)) t.if-short_length-eq0.true))
    (omega arith) (λ c. omega arith) (λ c. omega arith)
    (λ c κs. simp (length-take) (omega (arith, c.before.before.before.before.requires)))
    (λ c. let xs = c.before.before.before.before.before.args.s.now in rw (take_all (length xs - 0) xs (omega arith)) at c.null_long.ensures))
