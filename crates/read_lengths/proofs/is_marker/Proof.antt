use Rattle.prelude.proofs.Prelude.{arith}
use Rattle.read_lengths.proofs.{Shortcut.short_marker, is_marker.Statement.statement}
use Rattle.read_lengths.proofs.is_marker.Tie as tie

pub is_marker_spec : {M : Type 1} → statement M
is_marker_spec = tie.close (tie.spec (omega arith) (λ c. short_marker _ _ _ c.short_length.ensures.0 c.short_length.ensures.1.1))
