use Rattle.prelude.proofs.Prelude.{true, ap, ◌∙◌, arith, length, rules}
use Rattle.types.specs.{declared.Money.Money, Charges.money}
use Rattle.write_rate.proofs.{Octets.rate_parts, Octets.priced_length, priced_size.Statement.statement}
use Rattle.write_rate.proofs.priced_size.Tie as tie

pub priced_size_spec : {M : Type 1} → statement M
priced_size_spec =
    tie.close
    (tie.spec (λ c κs. search rules)
    (λ c κs. ap (money true).valid c.money_of-m.ensures ∙ (rate_parts _ c.before.requires.0).amount c.before.requires.1) (λ c κs. search rules) (λ c. search rules)
    (λ c. let m = ap (λ (x : Money). length ((money true).write x)) c.before.before.money_of-m.ensures in
    omega (arith, c.terms_size.ensures, c.before.money_size.ensures, m, priced_length c.before.before.before.args.r)))
