-- The front holds the modes read so far, and there are at most 7.
use Rattle.prelude.proofs.Prelude.{◌-◌, arith}
use Rattle.trunk_read_fields.proofs.{Asked.Asked, Asked.asked_none, Asked.asked_start, Asked.asked_more, Asked.asked_spare, Asked.done_spare, Asked.asking, Stores.zero_spare, modes_in.Statement.statement}
use Rattle.trunk_read_fields.proofs.modes_in.Tie as tie

abbrev invariant-loop : tie.invariant-loop-i
invariant-loop s at end front₀ count₀ i₀ front count i = Asked s at end front count i

abbrev decreases-loop : tie.decreases-loop-i
decreases-loop s at end front₀ count₀ i₀ front count i = 7 - count

pub modes_in_spec : {M : Type 1} → statement M
modes_in_spec =
    tie.close
    (tie.spec invariant-loop decreases-loop (omega arith) (λ c. (search asked_none, search zero_spare)) (λ c. search asked_start) (omega arith) (omega arith)
    (λ c. (search asking, search asked_spare)) (omega arith) (λ c. (search asking, search asked_spare)) (omega arith) (omega arith)
    (λ c. (search asking, search asked_spare)) (omega arith) (omega arith) (omega arith) (omega arith) (omega arith)
    (λ c. search asked_more) (omega arith) (omega arith) (omega arith) (λ c. (search asking, search done_spare)))
