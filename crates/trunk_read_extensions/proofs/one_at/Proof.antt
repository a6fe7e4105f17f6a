-- Each return by the answers that led to it.
use Rattle.prelude.proofs.Prelude.{arith}
use Rattle.coding.proofs.Reading.{reading, step}
use Rattle.trunk_read_extensions.proofs.{Told.one_is, one_at.Statement.statement}
use Rattle.trunk_read_extensions.proofs.one_at.Tie as tie

pub one_at_spec : {M : Type 1} → statement M
one_at_spec =
    tie.close (tie.spec (omega arith) (omega arith) (λ c. rw (c.halted.ensures, one_is) (search reading)) (omega arith) (λ c. rw one_is (search step)))
