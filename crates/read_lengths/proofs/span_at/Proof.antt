use Rattle.prelude.proofs.Prelude.{arith}
use Rattle.read_lengths.proofs.{Sought.found_at, Sought.span_got, Sought.span_fault, span_at.Statement.statement}
use Rattle.read_lengths.proofs.span_at.Tie as tie

pub span_at_spec : {M : Type 1} → statement M
span_at_spec =
    tie.close
    (tie.spec (omega arith) (λ c. omega (arith, c.before.find_end-stop.ensures.1)) (omega arith)
    (λ c. rw c.halted.ensures (search span_fault, omega arith)) (omega arith) (omega arith)
    (λ c.
    let e = c.before in
    let m = found_at _ _ _ e.before.find_end-stop.ensures.0 (omega (arith, e.if-stop-ge-NO_END.false)) in
    rw c.found.ensures (search span_got, omega (arith, m.1, m.2))))
