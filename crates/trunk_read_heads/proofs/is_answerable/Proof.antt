use Rattle.coding.{specs.Codec.one_of, proofs.Tests.tests}
use Rattle.trunk_read_heads.proofs.is_answerable.Statement.{statement}
use Rattle.trunk_read_heads.proofs.is_answerable.Tie as tie

pub is_answerable_spec : {M : Type 1} → statement M
unfolding one_of
is_answerable_spec = tie.close (tie.spec (λ c. rw c.in-59.is) (λ c. rw c.in-64.is) (λ c. search tests))
