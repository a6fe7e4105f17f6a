use Rattle.prelude.proofs.Prelude.{arith}
use Rattle.coding.proofs.Tests.{tests}
use Rattle.trunk_read_heads.proofs.is_known.Statement.{statement}
use Rattle.trunk_read_heads.proofs.is_known.Tie as tie

pub is_known_spec : {M : Type 1} → statement M
is_known_spec =
    tie.close (tie.spec (omega arith) (omega arith) (omega arith)
    (λ c. search tests) (λ c. rw c.before.in-2.is c.is_answerable.ensures) (λ c. search tests))
