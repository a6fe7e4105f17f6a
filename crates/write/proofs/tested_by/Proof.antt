use Rattle.prelude.proofs.Prelude.{sym, ◌∙◌, arith}
use Rattle.coding.proofs.Basic.{picked, unpicked}
use Rattle.write.proofs.{Fits.operation_range, tested_by.Statement.statement}
use Rattle.write.proofs.tested_by.Tie as tie

pub tested_by_spec : {M : Type 1} → statement M
tested_by_spec =
    tie.close
    (tie.spec (λ c κs. omega arith)
    (λ c. let q = sym c.before.is_charged.ensures ∙ c.if-is_charged.true in (sym (picked _ _ q), operation_range c.before.before.args.f c.before.before.requires q))
    (λ c. (sym (unpicked _ _ (sym c.before.is_charged.ensures ∙ c.if-is_charged.false)), omega arith)))
