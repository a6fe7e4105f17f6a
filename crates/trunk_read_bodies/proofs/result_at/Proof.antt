-- By the operation.
use Rattle.prelude.proofs.Prelude.{rules}
use Rattle.trunk_read_bodies.proofs.{Stores.result_59, Stores.result_64, result_at.Statement.statement}
use Rattle.trunk_read_bodies.proofs.result_at.Tie as tie

pub result_at_spec : {M : Type 1} → statement M
result_at_spec =
    tie.close
    (tie.spec (λ c κs. search rules)
    (λ c.
    let t = c.before.before.before.before.before.before in
    (rw (result_59 _ _ _ _ t.if-operation-eq-CHARGE_REQUEST.true) c.extended_at.ensures.0, c.extended_at.ensures.1)) (λ c κs. search rules)
    (λ c.
    let e = c.before.before.before.before.before.before in
    (rw (result_64 _ _ _ _ e.if-operation-eq-CHARGE_REQUEST.false) c.extended_at-2.ensures.0, c.extended_at-2.ensures.1)))
