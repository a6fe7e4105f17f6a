use Rattle.prelude.proofs.Prelude.{arith, le-ltb, lt-ltb}
use Rattle.coding.specs.Reader.{tagged}
use Rattle.read_lengths.proofs.is_tag.Statement.{statement}
use Rattle.read_lengths.proofs.is_tag.Tie as tie

pub is_tag_spec : {M : Type 1} → statement M
unfolding tagged
is_tag_spec = tie.close (tie.spec (omega arith) (λ c. simp (lt-ltb _ _ c.before.if-at-end.true)) (λ c. simp (le-ltb _ _ c.if-at-end.false)))
