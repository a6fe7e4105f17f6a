-- By the operation.
use Rattle.prelude.proofs.Prelude.{rules}
use Rattle.trunk_read_fields.proofs.Stores.{bare_body, zero_spare}
use Rattle.trunk_read_bodies.proofs.{Stores.argument_form, Stores.argument_dummy, Stores.blank_none, argument_at.Statement.statement}
use Rattle.trunk_read_bodies.proofs.argument_at.Tie as tie

pub argument_at_spec : {M : Type 1} → statement M
argument_at_spec =
    tie.close
    (tie.spec (λ c κs. let p = c.before.before.before.requires in (p.0.0, p.1.extension_bare))
    (λ c.
    let t = c.before.before in
    let p = t.before.before.requires.1 in
    (rw (argument_dummy _ t.if-operation-eq-GET_FINAL_CHARGE.true, blank_none p.charge_bare, bare_body _ p.front_bare) c.dummy_at.ensures, zero_spare p.front_bare))
    (λ c κs. search rules)
    (λ c.
    let e = c.before.before.before.before.before.before in
    let p = e.before.before.requires.0 in
    (rw (argument_form _ p.1 e.if-operation-eq-GET_FINAL_CHARGE.false) c.extended_at.ensures.0, c.extended_at.ensures.1)))
