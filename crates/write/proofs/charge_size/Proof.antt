use Rattle.prelude.proofs.Prelude.{arith, sym, ap, ◌∙◌, length}
use Rattle.coding.proofs.Basic.{picked, unpicked}
use Rattle.types.specs.Stored.{with_list}
use Rattle.write.proofs.{Fits.operation_range, Fits.its_front, Fits.its_charge, charge_size.Statement.statement}
use Rattle.write.proofs.charge_size.Tie as tie

charge-size-requires : tie.Need-charge_size-requires
charge-size-requires c κs =
    let s = c.before.before in
    let a = s.args in
    let x = with_list a.figure a.numbers.now a.rows.now in
    let q = sym c.before.is_charged.ensures ∙ c.if-is_charged.true in
    (operation_range a.f (its_front a.f x s.requires.0) q, (s.requires.1, its_charge a.f x s.requires.0 q))

pub charge_size_spec : {M : Type 1} → statement M
charge_size_spec =
    tie.close
    (tie.spec (λ c κs. omega arith) charge-size-requires
    (λ c. c.charge_size.ensures.0 ∙ sym (ap length (picked _ _ (sym c.before.before.is_charged.ensures ∙ c.before.if-is_charged.true))))
    (λ c. sym (ap length (unpicked _ _ (sym c.before.is_charged.ensures ∙ c.if-is_charged.false)))))
