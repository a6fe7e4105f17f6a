use Rattle.write_rate.proofs.is_kind.Statement.{statement}
use Rattle.write_rate.proofs.is_kind.Tie as tie

pub is_kind_spec : {M : Type 1} → statement M
is_kind_spec = tie.close (tie.spec (λ c. rw c.if-trunk.true) (λ c. rw c.if-trunk.false))
