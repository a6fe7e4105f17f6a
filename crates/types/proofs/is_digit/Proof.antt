-- Each return by the tests on the way.
use Rattle.prelude.proofs.Prelude.{eq-eqb, ne_eqb, le-leb, lt-leb}
use Rattle.types.proofs.is_digit.Statement.{statement}
use Rattle.types.proofs.is_digit.Tie as tie

pub is_digit_spec : {M : Type 1} → statement M
is_digit_spec =
    tie.close (tie.spec
    (λ c. simp (eq-eqb _ _ c.if-x-eq32.true)) (λ c. simp (ne_eqb _ _ c.before.if-x-eq32.false, le-leb _ _ c.if-x-ge48.true))
    (λ c. simp (ne_eqb _ _ c.before.if-x-eq32.false, lt-leb _ _ c.if-x-ge48.false)))
