use Rattle.prelude.proofs.Prelude.{arith, ◌∙◌, rules}
use Rattle.types.specs.Stored.{with_list}
use Rattle.write_rate.proofs.Prices.{was_true, was_false}
use Rattle.write.proofs.{Fits.held_not, Fits.held_tested, record_fine.Statement.statement}
use Rattle.write.proofs.record_fine.Tie as tie

returns-2 : tie.Need-returns-then-not-may_hold
returns-2 c =
    let c3 = c.before.before.before in
    let a = c3.before.before.before.args in (
      held_not a.f (with_list a.figure a.numbers.now a.rows.now) (was_true c3.front_fine.ensures c.before.before.if-not-front_fine.false)
          (was_false c.before.may_hold.ensures c.if-not-may_hold.true),
      omega arith,
    )

returns-3 : tie.Need-returns
returns-3 c =
    let c3 = c.before.before.before in let c6 = c3.before.before.before in
    let a = c6.before.before.args in (
      c.charge_fine.ensures ∙ held_tested a.f (with_list a.figure a.numbers.now a.rows.now) (was_true c3.before.before.front_fine.ensures c3.before.if-not-front_fine.false)
          (was_true c3.may_hold.ensures c.before.before.if-not-may_hold.false) c.before.tested_by.result c.before.tested_by.ensures.0,
      omega arith,
    )

pub record_fine_spec : {M : Type 1} → statement M
record_fine_spec =
    tie.close
    (tie.spec (λ c κs. omega arith) (λ c. (rw (was_false c.before.front_fine.ensures c.if-not-front_fine.true), omega arith)) (λ c κs. omega arith) returns-2
    (λ c κs. was_true c.before.before.before.front_fine.ensures c.before.before.if-not-front_fine.false) (λ c κs. search rules) returns-3)
