use Rattle.trunk_read_extensions.proofs.begins_badly.Statement.{statement}
use Rattle.trunk_read_extensions.proofs.begins_badly.Tie as tie

pub begins_badly_spec : {M : Type 1} → statement M
begins_badly_spec = tie.close (tie.spec (λ c. rw c.if-fresh.true) (λ c. rw c.if-fresh.false))
