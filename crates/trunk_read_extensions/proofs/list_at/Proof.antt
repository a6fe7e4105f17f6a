-- As many entries as counted are read, at most 254.
use Rattle.prelude.proofs.Prelude.{arith, ◌-◌, rules}
use Rattle.trunk_read_extensions.proofs.{Entries.Counted, Entries.list_empty, Entries.counted_start, Entries.counted_more, Entries.counted_done, Entries.counted_fault}
use Rattle.trunk_read_extensions.proofs.{Entries.counted_limit, Entries.counted_strange, list_at.Statement.statement}
use Rattle.trunk_read_extensions.proofs.list_at.Tie as tie

abbrev invariant-loop : tie.invariant-loop-i
invariant-loop s at end count₀ i₀ count i = Counted s at end count i

abbrev decreases-loop : tie.decreases-loop-i
decreases-loop s at end count₀ i₀ count i = 254 - count

pub list_at_spec : {M : Type 1} → statement M
list_at_spec =
    tie.close
    (tie.spec invariant-loop decreases-loop (omega arith) (λ c. rw c.reached.ensures (search list_empty)) (λ c. search counted_start) (omega arith)
    (omega arith) (λ c. rw c.halted.ensures (search counted_limit)) (omega arith) (λ c. rw c.halted-then-count-ge254.ensures (search counted_strange))
    (λ c κs. search rules) (omega arith) (λ c. rw c.halted-then-e-ne0.ensures (search counted_fault)) (omega arith) (omega arith)
    (λ c.
    let e = c.before.before in
    let t = e.before in
    counted_more _ _ _ t.before.before.loop-i.invariant t.before.loop-i-test.true t.if-count-ge254.false e.entry_at-e.ensures c.if-e-ne0.false)
    (omega arith) (λ c. rw c.reached-2.ensures (search counted_done)))
