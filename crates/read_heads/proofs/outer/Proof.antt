use Rattle.read_heads.proofs.{Cited.tests, outer.Statement.statement}
use Rattle.read_heads.proofs.outer.Tie as tie

pub outer_spec : {M : Type 1} → statement M
outer_spec =
    tie.close (tie.spec
    (λ c. search tests) (λ c. rw c.in-40.is) (λ c. rw c.in-41.is) (λ c. rw c.in-42.is) (λ c. rw c.in-2.is) (λ c. search tests))
