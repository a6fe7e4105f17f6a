use Rattle.prelude.proofs.Prelude.{rules}
use Rattle.trunk_read_charges.proofs.interim_at.Statement.{statement}
use Rattle.trunk_read_charges.proofs.interim_at.Tie as tie

pub interim_at_spec : {M : Type 1} → statement M
interim_at_spec = tie.close (tie.spec (λ c κs. search rules) (λ c. c.figure_at.ensures.0))
