use Rattle.prelude.proofs.Prelude.{◌-◌, arith, ◌∙◌, sym, take_all, length, length-take}
use Rattle.read_heads.proofs.Short.{tiny_value}
use Rattle.trunk_read_heads.proofs.value_at.{Statement.statement}
use Rattle.trunk_read_heads.proofs.value_at.Tie as tie

pub value_at_spec : {M : Type 1} → statement M
value_at_spec =
    tie.close (tie.spec
    (omega arith) (omega arith) (omega arith) (λ c. omega (arith, (c.before.before.before.tiny-x.ensures.1.1 (omega arith)).inside)) (omega arith)
    (λ c. let o = c.before.before in
    let t = o.before.before in
    let k = sym o.is_known.ensures ∙ c.before.if-is_known.true in
    rw c.number.ensures (tiny_value _ _ _ _ t.before.before.requires.0 (t.tiny-x.ensures.1.1 (omega arith)) _ _ o.before.if-x-lt128.true k, (omega arith, λ z. k)))
    (omega arith) (λ c. omega arith) (λ c. omega arith)
    (λ c κs. simp (length-take) (omega (arith, c.before.before.before.before.requires)))
    (λ c. let xs = c.before.before.before.before.before.args.s.now in rw (take_all (length xs - 0) xs (omega arith)) at c.value_long.ensures))
