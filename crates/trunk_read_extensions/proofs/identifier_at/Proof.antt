-- Each return by the answers that led to it.
use Rattle.prelude.proofs.Prelude.{arith}
use Rattle.coding.{specs.Reader.primitive, proofs.Reading.reading, proofs.Reading.step, proofs.Reading.fails, proofs.Reading.passes}
use Rattle.trunk_read_extensions.proofs.identifier_at.Statement.{statement}
use Rattle.trunk_read_extensions.proofs.identifier_at.Tie as tie

pub identifier_at_spec : {M : Type 1} → statement M
unfolding primitive
identifier_at_spec =
    tie.close
    (tie.spec (omega arith) (omega arith) (λ c. rw c.halted.ensures (search reading)) (omega arith) (omega arith)
    (λ c. rw c.halted-then-fault-ne0.ensures (search (step, fails (tt {0})))) (omega arith) (λ c. rw c.reached.ensures (search (step, passes (tt {0})))))
