use Rattle.prelude.proofs.Prelude.{arith}
use Rattle.coding.proofs.Reading.{lacks, strange}
use Rattle.read_lengths.proofs.not_there.Statement.{statement}
use Rattle.read_lengths.proofs.not_there.Tie as tie

pub not_there_spec : {M : Type 1} → statement M
not_there_spec =
    tie.close
    (tie.spec (omega arith) (λ c. rw c.halted.ensures ((λ s. search lacks), omega arith)) (omega arith)
    (λ c. rw c.halted-2.ensures ((λ s. search strange), omega arith)))
