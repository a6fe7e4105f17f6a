use Rattle.prelude.proofs.Prelude.{arith}
use Rattle.coding.{specs.Codec.prim, specs.Leaves.null_leaf, specs.Reader.primitive, proofs.Reading.reading, proofs.Reading.step, proofs.Reading.fails, proofs.Parts.null_none}
use Rattle.coding.{proofs.Parts.null_some}
use Rattle.read_elements.proofs.null_long.Statement.{statement}
use Rattle.read_elements.proofs.null_long.Tie as tie

pub null_long_spec : {M : Type 1} → statement M
unfolding prim null_leaf primitive
null_long_spec =
    tie.close
    (tie.spec (omega arith) (λ c κs. tt) (λ c. rw c.halted.ensures (search reading)) (λ c κs. tt)
    (λ c.
    let f = c.before.before.before in
    let o = f.before.before in
    let v = o.open_long-e.result.value in
    let e = null_some o.before.before.args.s.now v.start v.stop (omega arith) (omega arith) in
    rw c.halted-then-e.ensures (step _ _ _ _ o.open_long-e.ensures.0 f.if-e-ne0.false (fails _ _ _ _ e (λ h. omega arith))))
    (λ c κs. tt)
    (λ c.
    let o = c.before.before.before.before.before in
    let v = o.open_long-e.result.value in
    let e = null_none o.before.before.args.s.now v.start v.stop (omega arith) in
    rw c.reached.ensures (search reading)))
