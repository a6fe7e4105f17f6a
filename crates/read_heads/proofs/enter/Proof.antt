use Rattle.coding.proofs.{Reading.gives, Frames.any_told, Frames.any_lacks, Frames.any_strange, Frames.any_over, Frames.any_enters}
use Rattle.read_heads.specs.inner.Heads.{outside_code}
use Rattle.read_heads.proofs.Cited.{arith}
use Rattle.read_heads.proofs.{Codes.outside_code_lem, Entered.{by_lengths, alone, refused, tag_below, tag_above, tag_among}, enter.Statement.statement}
use Rattle.read_heads.proofs.enter.Tie as tie

pub enter_spec : {M : Type 1} → statement M
enter_spec =
    tie.close (tie.spec
    (omega arith) (λ c. refused _ _ _ c.halted.ensures (λ h. absurd (omega arith)) (any_lacks _ _ _ _ _ _ _ _ (omega arith))) (omega arith) (omega arith)
    (λ c. refused _ _ _ c.halted-then-tag-lt161.ensures (λ h. omega arith) (any_strange _ _ _ _ _ _ _ _ (omega arith) (tag_below _ c.before.if-tag-lt161.true))) (omega arith)
    (λ c. refused _ _ _ c.halted-then-tag-gt164.ensures (λ h. omega arith) (any_strange _ _ _ _ _ _ _ _ (omega arith) (tag_above _ c.before.if-tag-gt164.true)))
    (omega arith) (omega arith) (omega arith) (λ c. let f = c.before.before in refused _ _ _ c.halted-then-e-ne0.ensures (λ h. omega arith) (rw c.before.outer.ensures
    (any_told _ _ _ _ _ _ _ _ outside_code outside_code_lem _ (omega arith) (tag_among _ (omega arith) (omega arith)) (by_lengths _ _ f.before.before.open_at-e.ensures.0 (omega arith))
    f.if-e-ne0.true)))
    (omega arith) (λ c. let f = c.before.before.before in refused _ _ _ c.halted-then-e-n.ensures (λ h. omega arith)
    (any_over _ _ _ _ _ _ _ _ _ (omega arith) (tag_among _ (omega arith) (omega arith)) (by_lengths _ _ f.before.before.open_at-e.ensures.0 (omega arith)) f.if-e-ne0.false
    c.before.if-e-n.true))
    (omega arith) (λ c. let f = c.before.before.before in rw c.found.ensures (
      alone _ _
          (any_enters _ _ _ _ _ _ _ _ _ (omega arith) (tag_among _ (omega arith) (omega arith)) (by_lengths _ _ f.before.before.open_at-e.ensures.0 (omega arith)) f.if-e-ne0.false
          c.before.if-e-n.false (gives _ _ _)),
      ((λ h. omega arith), omega arith),
    )))
