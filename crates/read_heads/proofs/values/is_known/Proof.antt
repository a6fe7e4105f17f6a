use Rattle.prelude.proofs.Prelude.{or-false}
use Rattle.coding.specs.Codec.{one_of}
use Rattle.read_heads.proofs.{Cited.{arith, tests}, values.is_known.Statement.statement}
use Rattle.read_heads.proofs.values.is_known.Tie as tie

pub is_known_spec : {M : Type 1} → statement M
unfolding one_of
is_known_spec = tie.close (tie.spec (omega arith) (omega arith) (λ c. search tests) (λ c. rw (c.in-2.is, or-false)) (λ c. search tests))
