-- Four parts of zeros are the record of zeros.
use Rattle.prelude.proofs.Prelude.{refl}
use Rattle.coding.specs.Reader.{part}
use Rattle.types.specs.Stored.{figure_in}
use Rattle.element_pass.proofs.without.Statement.{statement}
use Rattle.element_pass.proofs.without.Tie as tie

pub without_spec : {M : Type 1} → statement M
without_spec = tie.close (tie.spec (λ c. unfold figure_in part in refl))
