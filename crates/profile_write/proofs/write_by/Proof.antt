use Rattle.prelude.proofs.Prelude.{arith, refl, eq-eqb, ne_eqb}
use Rattle.profile_write.specs.Writes.{write_by, left_by}
use Rattle.profile_write.proofs.write_by.Statement.{statement}
use Rattle.profile_write.proofs.write_by.Tie as tie

returns : tie.Need-returns-then-profile-eq145
unfolding write_by left_by
returns c =
    let w = c.before.before in
    let i = w.before.before in
    rw (eq-eqb _ 0x91 i.if-profile-eq145.true) (w.write_line.ensures.0, w.write_line.ensures.1)

returns-2 : tie.Need-returns-then-profile-eq159
unfolding write_by left_by
returns-2 c =
    let w = c.before.before in
    let i = w.before.before in
    rw (ne_eqb _ 0x91 i.before.if-profile-eq145.false, eq-eqb _ 0x9f i.if-profile-eq159.true) (w.write_from.ensures.0, w.write_from.ensures.1)

returns-3 : tie.Need-returns
unfolding write_by left_by
returns-3 c = rw (ne_eqb _ 0x91 c.before.if-profile-eq145.false, ne_eqb _ 0x9f c.if-profile-eq159.false) (refl, refl)

pub write_by_spec : {M : Type 1} → statement M
write_by_spec = tie.close (tie.spec (omega arith) (omega arith) returns (omega arith) (omega arith) returns-2 returns-3)
