use Rattle.coding.{specs.Codec.one_of, proofs.Tests.tests}
use Rattle.read_heads.proofs.values.known_error.Statement.{statement}
use Rattle.read_heads.proofs.values.known_error.Tie as tie

pub known_error_spec : {M : Type 1} → statement M
unfolding one_of
known_error_spec =
    tie.close (tie.spec
    (λ c. rw c.in-0.is) (λ c. rw c.in-3.is) (λ c. rw c.in-4.is) (λ c. rw c.in-7.is) (λ c. rw c.in-26.is) (λ c. search tests))
