use Rattle.prelude.proofs.Prelude.{◌-◌, arith, take_all, length, length-take}
use Rattle.read_elements.proofs.{Shortcut.tiny_natural, natural_at.Statement.statement}
use Rattle.read_elements.proofs.natural_at.Tie as tie

pub natural_at_spec : {M : Type 1} → statement M
natural_at_spec =
    tie.close
    (tie.spec (omega arith) (omega arith) (λ c. omega (arith, (c.before.before.before.tiny-x.ensures.1.1 (omega arith)).inside))
    (λ c κs. tt)
    (λ c.
    let t = c.before.before.before.before.tiny-x.ensures.1.1 (omega arith) in
    rw c.number.ensures (tiny_natural _ _ _ _ _ _ (omega arith) t (omega arith) (omega arith) (omega arith), omega arith))
    (omega arith) (λ c. omega arith) (λ c. omega arith)
    (λ c κs. simp (length-take) (omega (arith, c.before.before.before.before.requires)))
    (λ c. let xs = c.before.before.before.before.before.args.s.now in rw (take_all (length xs - 0) xs (omega arith)) at c.natural_long.ensures))
