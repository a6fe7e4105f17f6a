use Rattle.prelude.proofs.Prelude.{◌-◌, rules, arith, take_all, length, length-take}
use Rattle.read_lengths.proofs.{Shortcut.short_shown, open_at.Statement.statement}
use Rattle.read_lengths.proofs.open_at.Tie as tie

pub open_at_spec : {M : Type 1} → statement M
open_at_spec =
    tie.close
    (tie.spec (omega arith) (λ c. omega (arith, (c.before.short_length-n.ensures.1.1 (omega arith)).inside))
    (λ c. omega (arith, (c.before.short_length-n.ensures.1.1 (omega arith)).inside))
    (omega arith) (λ c. let t = c.before.before.short_length-n.ensures.1.1 (omega arith) in rw c.found.ensures (short_shown _ _ _ _ _ t, omega (arith, t.inside)))
    (omega arith) (λ c. omega arith) (λ c. omega arith)
    (λ c κs. simp (length-take) (omega (arith, c.before.before.before.before.requires)))
    (λ c. let xs = c.before.before.before.before.before.args.s.now in rw (take_all (length xs - 0) xs (omega arith)) at c.open_long.ensures))
