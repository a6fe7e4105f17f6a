-- Each return by the answers that led to it.
use Rattle.coding.proofs.Reading.{reading, step}
use Rattle.read_figures.proofs.Answers.{closes}
use Rattle.trunk_read_fields.proofs.{Cited.{arith, rules, storing}, Stores.{zero_spare, modes_read}, modes_at.Statement.statement}
use Rattle.trunk_read_fields.proofs.modes_at.Tie as tie

pub modes_at_spec : {M : Type 1} → statement M
modes_at_spec =
    tie.close
    (tie.spec (omega arith) (omega arith) (λ c. (rw modes_read (search (storing, reading)), search zero_spare)) (λ c κs. search rules) (omega arith)
    (λ c.
    let e = c.before.before.before in
    let contents = closes _ _ _ _ _ _ c.closed.ensures c.before.modes_in-m.ensures.0 in
    (rw modes_read (step _ _ _ _ e.before.before.open_at-e.ensures.0 e.if-e-ne0.false contents), search)))
