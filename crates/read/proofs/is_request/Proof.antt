use Rattle.prelude.proofs.Prelude.{eq-eqb, ne_eqb}
use Rattle.read.proofs.is_request.{Statement.statement, Tie.close, Tie.spec}

pub is_request_spec : {M : Type 1} → statement M
is_request_spec = close (spec (λ c. simp (eq-eqb _ _ c.before.if-h-eq-INVOKE.true)) (λ c. simp (ne_eqb _ _ c.if-h-eq-INVOKE.false)))
