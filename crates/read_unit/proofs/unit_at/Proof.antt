-- Each return by the answers that led to it.
use Rattle.prelude.proofs.Prelude.{rules, ◌∙◌}
use Rattle.coding.proofs.Reading.{reading, step, stay, remains, shut}
use Rattle.read_unit.proofs.{Steps.unit_read, unit_at.Statement.statement}
use Rattle.read_unit.proofs.unit_at.Tie as tie

pub unit_at_spec : {M : Type 1} → statement M
unit_at_spec =
    tie.close
    (tie.spec (search rules) (search rules) (λ c. rw unit_read (c.no_units.ensures ∙ search reading)) (search rules) (search rules)
    (λ c. rw unit_read (c.no_units-then-n-ne0.ensures ∙ search reading)) (search rules) (search rules)
    (λ c.
    let o = c.before.before.before.before.before.before in
    rw unit_read (c.no_units-then-k-ne0.ensures ∙ search (step, stay)))
    (search rules)
    (λ c.
    let n = c.before.before.before.before.before.before in
    let o = n.before.before.before in
    rw unit_read (c.no_units-then-k-e.ensures ∙ search (step, remains) depth 8))
    (search rules) (search rules)
    (λ c.
    let k = c.before.before.before.before in
    let o = k.before.before.before.before.before.before in
    rw (unit_read, c.units.ensures) (search (step, shut) depth 8)))
