-- Five parts of zeros are a trunk's record of zeros.
use Rattle.prelude.proofs.Prelude.{refl}
use Rattle.coding.specs.Reader.{part}
use Rattle.types.specs.Stored.{figure_in}
use Rattle.trunk_types.specs.Stored.{body_in, trunk_in}
use Rattle.profile_read.proofs.no_trunk.Statement.{statement}
use Rattle.profile_read.proofs.no_trunk.Tie as tie

pub no_trunk_spec : {M : Type 1} → statement M
no_trunk_spec = tie.close (tie.spec (λ c. unfold trunk_in body_in figure_in part in (refl, refl)))
