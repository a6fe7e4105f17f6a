use Rattle.prelude.proofs.Prelude.{arith}
use Rattle.profile_read.proofs.{Reading.by_line, Reading.beside, read_by.Statement.statement}
use Rattle.profile_read.proofs.read_by.Tie as tie

returns : tie.Need-returns-then-profile-eq145
returns c =
    let r = c.before in
    let t = r.before.before.before.before.before in
    let i = t.before.before.before.before.before.before in
    rw c.judged_as.ensures (by_line _ _ i.if-profile-eq145.true r.read_into-a.ensures t.no_trunk.ensures.0, t.no_trunk.ensures.1)

trunk-by-requires : tie.Need-trunk_by-requires
trunk-by-requires c κs =
    let l = c.before.before.before.before.before in
    let i = l.before.before.before.before.before in
    i.if-profile-eq145.false

returns-2 : tie.Need-returns
returns-2 c =
    let l = c.before.before.before.before.before.before in
    (beside l.no_line.ensures c.trunk_by.ensures.0, c.trunk_by.ensures.1)

pub read_by_spec : {M : Type 1} → statement M
read_by_spec = tie.close (tie.spec (omega arith) (omega arith) (omega arith) returns (omega arith) trunk-by-requires returns-2)
