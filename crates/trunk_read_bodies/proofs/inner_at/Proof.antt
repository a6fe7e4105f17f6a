-- By the form.
use Rattle.prelude.proofs.Prelude.{rules, eq-eqb, ne_eqb}
use Rattle.coding.proofs.Reading.{picks_run, skips_run}
use Rattle.trunk_read_bodies.specs.inner.Bodied.{inner_of}
use Rattle.trunk_read_fields.proofs.Stores.{zero_spare}
use Rattle.trunk_read_bodies.proofs.{Stores.uncharged, Stores.unlisted, Stores.charge_alone, inner_at.Statement.statement}
use Rattle.trunk_read_bodies.proofs.inner_at.Tie as tie

ruleset forms = (picks_run, skips_run, eq-eqb, ne_eqb)

pub inner_at_spec : {M : Type 1} → statement M
unfolding inner_of
inner_at_spec =
    tie.close
    (tie.spec (λ c κs. search rules) (λ c κs. search rules) (λ c κs. search rules) (λ c κs. search rules) (λ c κs. search rules) (λ c κs. search rules)
    (λ c. (search (uncharged, forms), search)) (λ c. (search (uncharged, forms, c.before.before.in-2.is), search))
    (λ c. (search (uncharged, forms, c.before.before.in-59.is) depth 8, search)) (λ c. (search (unlisted, forms, c.before.before.before.in-64.is) depth 8, search))
    (λ c. (search (unlisted, forms, c.before.before.before.in-65.is) depth 8, search)) (λ c. (search (charge_alone, forms) depth 8, search zero_spare)))
