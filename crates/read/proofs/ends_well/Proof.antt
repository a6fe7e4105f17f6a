use Rattle.prelude.proofs.Prelude.{eq-eqb, ne_eqb}
use Rattle.read.proofs.ends_well.{Statement.statement, Tie.close, Tie.spec}

pub ends_well_spec : {M : Type 1} → statement M
ends_well_spec = close (spec (λ c. simp (eq-eqb _ _ c.if-fault-eq0.true)) (λ c. simp (ne_eqb _ _ c.if-fault-eq0.false)))
