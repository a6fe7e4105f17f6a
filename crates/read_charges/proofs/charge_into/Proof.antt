-- Each return by the operation.
use Rattle.prelude.proofs.Prelude.{arith, rules, sym, ◌∙◌, not-true, not-false}
use Rattle.read_lengths.proofs.Answers.{when}
use Rattle.read_charges.proofs.{Stores.plain_stored, Steps.figure_of_lem, Steps.tariff_read, charge_into.Statement.statement}
use Rattle.read_charges.proofs.charge_into.Tie as tie

pub charge_into_spec : {M : Type 1} → statement M
charge_into_spec =
    tie.close
    (tie.spec (omega arith) (λ c κs. search rules)
    (λ c.
    let a = c.before.before.before in
    rw (figure_of_lem _ (sym a.before.before.is_tariff.ensures ∙ a.before.if-not-is_tariff.true)) c.figure_at.ensures)
    (omega arith) (λ c κs. search rules)
    (λ c.
    let a = c.before.before.before in
    rw (tariff_read _ _ _ _ (sym a.before.before.is_tariff.ensures ∙ a.before.if-not-is_tariff.false)) (search (plain_stored, when)))
    (λ c κs. search rules)
    (λ c.
    let i = c.before.before.before.before.before.before in
    rw (tariff_read _ _ _ _ (sym i.before.is_tariff.ensures ∙ i.if-not-is_tariff.false)) (search when)))
