use Rattle.prelude.proofs.Prelude.{ap, ◌∙◌, arith, rules, le-leb, lt-leb}
use Rattle.types.specs.{Charges.no_money, Charges.money, Arguments.same_money}
use Rattle.write_rate.specs.inner.Prices.{amount_fine}
use Rattle.write_rate.proofs.amount_fine.Statement.{statement}
use Rattle.write_rate.proofs.amount_fine.Tie as tie

pub amount_fine_spec : {M : Type 1} → statement M
unfolding amount_fine
amount_fine_spec =
    tie.close
    (tie.spec (λ c κs. search rules) (λ c κs. search rules)
    (λ c. let c3 = c.before.before.before in
    rw (le-leb c3.before.before.before.args.r.kind 3 (omega arith))
    (c.money_fine.ensures ∙ ap (money c3.before.before.before.args.trunk).valid c3.before.before.money_of-m.ensures)) (λ c κs. search rules)
    (λ c. let c3 = c.before.before.before in let c6 = c3.before.before.before in
    rw (lt-leb c6.before.args.r.kind 3 (omega arith)) (c.no_money.ensures ∙ ap (same_money no_money) c3.before.before.before.money_of-m.ensures)))
