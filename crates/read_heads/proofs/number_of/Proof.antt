use Rattle.prelude.proofs.Prelude.{eq-eqb, le-leb, lt-leb}
use Rattle.read_heads.proofs.{Codes.number_low, number_of.Statement.statement}
use Rattle.read_heads.proofs.number_of.Tie as tie

pub number_of_spec : {M : Type 1} → statement M
number_of_spec =
    tie.close (tie.spec
    (λ c. simp (le-leb _ _ c.if-fault-ge-BASE.true)) (λ c. simp (lt-leb _ _ c.before.if-fault-ge-BASE.false, eq-eqb _ _ c.if-fault-eq-LENGTH_FORM.true))
    (λ c. number_low _ c.before.if-fault-ge-BASE.false c.if-fault-eq-LENGTH_FORM.false))
