use Rattle.prelude.proofs.Prelude.{arith, sym, ◌∙◌}
use Rattle.write.proofs.may_hold.Statement.{statement}
use Rattle.write.proofs.may_hold.Tie as tie

pub may_hold_spec : {M : Type 1} → statement M
may_hold_spec = tie.close
    (tie.spec (λ c κs. omega arith) (λ c. c.if-is_charged.true ∙ sym (rw (← c.before.is_charged.ensures, c.if-is_charged.true)))
    (λ c. rw (← c.before.is_charged.ensures, c.if-is_charged.false)))
