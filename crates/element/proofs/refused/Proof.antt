use Rattle.prelude.proofs.Prelude.{refl}
use Rattle.coding.specs.Codec.{pad}
use Rattle.element.proofs.refused.Statement.{statement}
use Rattle.element.proofs.refused.Tie as tie

pub refused_spec : {M : Type 1} → statement M
refused_spec = tie.close (tie.spec (λ c. unfold pad in refl))
