-- Each return by the answers that led to it.
use Rattle.prelude.proofs.Prelude.{arith}
use Rattle.coding.{specs.Reader.primitive, specs.Codec.{barring, prim}, specs.Leaves.listed, proofs.Reading.{step, stay, picks, skips, halts}}
use Rattle.types.specs.Frames.{value}
use Rattle.read_heads.specs.inner.Heads.{looked_up}
use Rattle.read_heads.proofs.{Codes.{unlisted, numbering, looked_halted}, values.number_at.Statement.statement}
use Rattle.read_heads.proofs.values.number_at.Tie as tie

pub number_at_spec : {M : Type 1} → statement M
unfolding value barring looked_up prim listed primitive
number_at_spec =
    tie.close
    (tie.spec (omega arith) (omega arith) (λ c u ks low. let k = c.before in rw (c.number.ensures, unlisted ks low) (picks _ _ _ _ _ _ _ k.before.is_tag.ensures k.if-is_tag.true (halts _ _ _)))
    (omega arith) (omega arith) (λ c u ks low. looked_halted _ _ _ c.no_number.ensures c.before.if-e-ne0.true (search (skips, stay))) (omega arith) (omega arith)
    (λ c u ks low. looked_halted _ _ _ c.no_number-then-not-is_shortest.ensures (λ e. omega (arith, e)) (search (skips, step, numbering))) (omega arith) (omega arith)
    (λ c u ks low. looked_halted _ _ _ c.no_number-then-stop-start-gt4.ensures (λ e. omega (arith, e)) (search (skips, step, numbering))) (omega arith) (omega arith)
    (λ c u ks low. rw c.number-then-is_negative.ensures (search (skips, step, numbering))) (omega arith) (omega arith) (λ c u ks low. rw c.number-2.ensures (search (skips, step, numbering))))
