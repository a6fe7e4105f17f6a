use Rattle.prelude.proofs.Prelude.{arith}
use Rattle.trace_setups.proofs.{Requests.by_refused, Requests.by_frame, Requests.by_operation, Requests.by_case, Requests.by_all, asked_by.Statement.statement}
use Rattle.trace_setups.proofs.asked_by.Tie as tie

pub asked_by_spec : {M : Type 1} → statement M
asked_by_spec =
    tie.close
    (tie.spec (omega arith)
    (λ c. let r = c.before.before.before in by_refused _ _ r.read-a.ensures c.if-a-ne0.true)
    (λ c. let f = c.before.before in let r = f.before.before.before in by_frame _ _ r.read-a.ensures f.if-a-ne0.false c.if-front-ne-INVOKE.true)
    (λ c. let g = c.before.before in let f = g.before.before in let r = f.before.before.before in
    by_operation _ _ r.read-a.ensures f.if-a-ne0.false g.if-front-ne-INVOKE.false c.if-front-ne-CHARGING_REQUEST.true)
    (λ c. let h = c.before.before in let g = h.before.before in let f = g.before.before in let r = f.before.before.before in
    by_case _ _ r.read-a.ensures f.if-a-ne0.false g.if-front-ne-INVOKE.false h.if-front-ne-CHARGING_REQUEST.false c.if-front-case.true)
    (λ c. let h = c.before.before in let g = h.before.before in let f = g.before.before in let r = f.before.before.before in
    by_all _ _ r.read-a.ensures f.if-a-ne0.false g.if-front-ne-INVOKE.false h.if-front-ne-CHARGING_REQUEST.false c.if-front-case.false))
