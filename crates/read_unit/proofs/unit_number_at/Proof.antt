-- Each return by the answers that led to it.
use Rattle.prelude.proofs.Prelude.{rules, ◌∙◌}
use Rattle.coding.proofs.Reading.{reading}
use Rattle.read_unit.specs.inner.Readers.{unit_number}
use Rattle.read_unit.proofs.unit_number_at.Statement.{statement}
use Rattle.read_unit.proofs.unit_number_at.Tie as tie

pub unit_number_at_spec : {M : Type 1} → statement M
unfolding unit_number
unit_number_at_spec =
    tie.close
    (tie.spec (search rules) (search rules) (search rules) (λ c. c.no_units.ensures ∙ search reading) (search rules)
    (λ c. rw c.units.ensures (search reading)) (search rules) (search rules) (λ c. c.no_units-then-n-ne0.ensures ∙ search reading) (search rules) (λ c. rw c.units-2.ensures (search reading)))
