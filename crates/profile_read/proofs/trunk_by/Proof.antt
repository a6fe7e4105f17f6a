use Rattle.prelude.proofs.Prelude.{arith, refl}
use Rattle.profile_read.proofs.{Reading.by_trunk, Reading.by_neither, trunk_by.Statement.statement}
use Rattle.profile_read.proofs.trunk_by.Tie as tie

returns : tie.Need-returns-then-profile-eq159
returns c =
    let r = c.before in
    let i = r.before.before.before.before.before.before in
    rw c.judged_as.ensures (by_trunk _ _ i.before.before.requires i.if-profile-eq159.true refl r.read_into-a.ensures.0, r.read_into-a.ensures.1)

returns-2 : tie.Need-returns
returns-2 c =
    let n = c.before in
    let i = n.before.before.before.before.before.before in
    rw c.judged_as-2.ensures (by_neither _ _ i.before.before.requires i.if-profile-eq159.false refl n.no_trunk.ensures.0, n.no_trunk.ensures.1)

pub trunk_by_spec : {M : Type 1} → statement M
trunk_by_spec = tie.close (tie.spec (omega arith) (omega arith) returns (omega arith) (omega arith) returns-2)
