use Rattle.trace.proofs.{Cited.{arith}, Laying.{puts_none, bare_room}, put_when.Statement.statement}
use Rattle.trace.proofs.put_when.Tie as tie

put-bare-requires : tie.Need-put_bare-requires
put-bare-requires c κs =
    let i = c.before.before in
    let s = i.before.before in
    rw c.bare_event.ensures (bare_room _ (rw i.if-not-given.false at s.requires))

returns-2 : tie.Need-returns
returns-2 c =
    let p = c.before.before in
    let i = p.before.before.before in
    λ out. rw i.if-not-given.false (rw p.before.bare_event.ensures at (p.put_bare.ensures out))

pub put_when_spec : {M : Type 1} → statement M
put_when_spec =
    tie.close
    (tie.spec (λ c. let x = c.before.before.args in λ out. rw c.if-not-given.true (puts_none _ out _))
    (omega arith) put-bare-requires (omega arith) returns-2)
