use Rattle.prelude.proofs.Prelude.{le-ltb, lt-ltb, eq-eqb, ne_eqb, arith}
use Rattle.coding.{specs.Reader.endless, proofs.Tests.and-false}
use Rattle.read_lengths.proofs.is_endless.Statement.{statement}
use Rattle.read_lengths.proofs.is_endless.Tie as tie

pub is_endless_spec : {M : Type 1} → statement M
unfolding endless
is_endless_spec =
    tie.close
    (tie.spec (omega arith) (λ c. omega arith) (λ c. simp (lt-ltb _ _ c.before.before.before.if-at-end.true, eq-eqb _ _ c.before.if-s-at.true))
    (λ c. simp (ne_eqb _ _ c.if-s-at.false, and-false)) (λ c. simp (le-ltb _ _ c.if-at-end.false)))
