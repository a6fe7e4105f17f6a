use Rattle.prelude.proofs.Prelude.{arith, refl}
use Rattle.coding.{specs.Codec.alt, proofs.Reading.reading}
use Rattle.types.specs.Frames.{caller}
use Rattle.read_heads.proofs.caller_at.Statement.{statement}
use Rattle.read_heads.proofs.caller_at.Tie as tie

pub caller_at_spec : {M : Type 1} → statement M
unfolding caller alt
caller_at_spec =
    tie.close
    (tie.spec (omega arith) (omega arith) (omega arith) (λ c. rw c.caller_read.ensures (search reading, λ tag detail. refl)) (omega arith)
    (λ c. rw c.caller_read-then-is_tag.ensures (search reading, λ tag detail. refl)) (omega arith) (omega arith)
    (λ c. rw c.caller_read-then-i-ne0.ensures (search reading, λ tag detail. refl)) (omega arith) (omega arith)
    (λ c. rw c.caller_read-2.ensures (search reading, λ tag detail. refl)))
