use Rattle.trace.proofs.{Cited.{arith}, Laying.{puts_none, bare_room}, put_setup.Statement.statement}
use Rattle.trace.proofs.put_setup.Tie as tie

put-bare-requires : tie.Need-put_bare-requires
put-bare-requires c κs =
    let s = c.before.before.before.before.before in
    rw c.before.setup_of-e.ensures (bare_room _ (rw c.before.before.if-not-given.false at s.requires.1))

returns-2 : tie.Need-returns
returns-2 c =
    let p = c.before.before in
    let e = p.before.before in
    let x = e.before.before.before.before.args in
    λ out. rw e.before.if-not-given.false (rw e.setup_of-e.ensures at (p.put_bare.ensures out))

pub put_setup_spec : {M : Type 1} → statement M
put_setup_spec =
    tie.close
    (tie.spec (λ c. let x = c.before.before.before.args in λ out. rw c.if-not-given.true (puts_none _ out _))
    (λ c κs. c.before.before.before.requires.0) put-bare-requires (omega arith) returns-2)
