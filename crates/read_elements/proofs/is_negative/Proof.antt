use Rattle.prelude.proofs.Prelude.{arith, le-ltb}
use Rattle.coding.{specs.Contents.negative, proofs.Parts.part_none, proofs.Parts.part_cons}
use Rattle.read_elements.proofs.is_negative.Statement.{statement}
use Rattle.read_elements.proofs.is_negative.Tie as tie

pub is_negative_spec : {M : Type 1} → statement M
unfolding negative
is_negative_spec =
    tie.close (tie.spec (omega arith) (λ c. rw (part_cons _ _ _ c.before.if-start-stop.true c.before.before.requires)) (λ c. rw (part_none _ _ _ c.if-start-stop.false, le-ltb _ _ c.if-start-stop.false)))
