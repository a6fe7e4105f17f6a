-- Four parts of zeros are the record of zeros.
use Rattle.prelude.proofs.Prelude.{refl}
use Rattle.coding.specs.Reader.{part}
use Rattle.types.specs.Stored.{figure_in}
use Rattle.profile_read.proofs.no_line.Statement.{statement}
use Rattle.profile_read.proofs.no_line.Tie as tie

pub no_line_spec : {M : Type 1} → statement M
no_line_spec = tie.close (tie.spec (λ c. unfold figure_in part in refl))
