use Rattle.prelude.proofs.Prelude.{ap}
use Rattle.element.specs.declared.Starts.{Starts}
use Rattle.element_cut.proofs.uncut.Statement.{statement}
use Rattle.element_cut.proofs.uncut.Tie as tie

pub uncut_spec : {M : Type 1} → statement M
uncut_spec = tie.close (tie.spec (λ c κs. tt) (λ c. ap (λ (t : Starts). record { tiles = t; after = 0 }) c.refused-tiles.ensures))
