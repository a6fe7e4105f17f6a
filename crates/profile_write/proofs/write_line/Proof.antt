-- The record lies in the parts: its front is taken out of its octets, and the rest is lent on.
use Rattle.prelude.proofs.Prelude.{arith, ap, rules}
use Rattle.types.specs.{declared.Front.Front, Stored.stored_charge}
use Rattle.write.proofs.Outcomes.{of_same}
use Rattle.write_heads.specs.inner.Halves.{record_of}
use Rattle.profile_write.proofs.write_line.Statement.{statement}
use Rattle.profile_write.proofs.write_line.Tie as tie

returns : tie.Need-returns
returns c =
    let w = c.before.before in
    let f = w.before.before in
    let a = f.before.before.args in
    of_same a.buf.now (ap (λ (x : Front). record_of x (stored_charge a.figure.now a.numbers.now a.rows.now)) f.front_of-f.ensures) w.write_from.ensures

pub write_line_spec : {M : Type 1} → statement M
write_line_spec = tie.close (tie.spec (λ c κs. search rules) (λ c κs. search rules) (omega arith) returns)
