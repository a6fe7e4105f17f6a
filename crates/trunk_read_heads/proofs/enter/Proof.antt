use Rattle.prelude.proofs.Prelude.{arith, sym, ◌∙◌}
use Rattle.coding.proofs.{Reading.gives, Frames.any_told, Frames.any_lacks, Frames.any_strange, Frames.any_over, Frames.any_enters}
use Rattle.read_heads.{specs.inner.Heads.outside_code, proofs.Codes.outside_code_lem, proofs.Entered.{by_lengths, alone, refused}}
use Rattle.trunk_read_heads.proofs.enter.Statement.{statement}
use Rattle.trunk_read_heads.proofs.enter.Tie as tie

pub enter_spec : {M : Type 1} → statement M
enter_spec =
    tie.close (tie.spec
    (omega arith) (λ c. refused _ _ _ c.halted.ensures (λ h. absurd (omega arith)) (any_lacks _ _ _ _ _ _ _ _ (omega arith))) (omega arith) (omega arith) (omega arith)
    (λ c. let t = c.before.before in refused _ _ _ c.halted-then-not-is_frame.ensures (λ h. omega arith) (any_strange _ _ _ _ _ _ _ _ (omega arith) (sym t.is_frame.ensures ∙ c.before.if-not-is_frame.true)))
    (omega arith) (omega arith) (omega arith) (λ c. let f = c.before.before in let t = f.before.before.before in refused _ _ _ c.halted-then-e-ne0.ensures (λ h. omega arith) (rw c.before.outer.ensures
    (any_told _ _ _ _ _ _ _ _ outside_code outside_code_lem _ (omega arith) (sym t.before.is_frame.ensures ∙ t.if-not-is_frame.false) (by_lengths _ _ f.before.before.open_at-e.ensures.0 (omega arith))
    f.if-e-ne0.true)))
    (omega arith) (λ c. let f = c.before.before.before in let t = f.before.before.before in refused _ _ _ c.halted-then-e-n.ensures (λ h. omega arith)
    (any_over _ _ _ _ _ _ _ _ _ (omega arith) (sym t.before.is_frame.ensures ∙ t.if-not-is_frame.false) (by_lengths _ _ f.before.before.open_at-e.ensures.0 (omega arith)) f.if-e-ne0.false
    c.before.if-e-n.true))
    (omega arith) (λ c. let f = c.before.before.before in let t = f.before.before.before in rw c.found.ensures (
      alone _ _
          (any_enters _ _ _ _ _ _ _ _ _ (omega arith) (sym t.before.is_frame.ensures ∙ t.if-not-is_frame.false) (by_lengths _ _ f.before.before.open_at-e.ensures.0 (omega arith)) f.if-e-ne0.false
          c.before.if-e-n.false (gives _ _ _)),
      ((λ h. omega arith), omega arith),
    )))
