use Rattle.coding.{specs.Codec.one_of, proofs.Tests.tests}
use Rattle.trunk_read_heads.proofs.known_error.Statement.{statement}
use Rattle.trunk_read_heads.proofs.known_error.Tie as tie

pub known_error_spec : {M : Type 1} → statement M
unfolding one_of
known_error_spec = tie.close (tie.spec (λ c. rw c.in-3.is) (λ c. rw c.in-10.is) (λ c. rw c.in-1008.is) (λ c. rw c.in-1016.is) (λ c. search tests))
