use Rattle.prelude.proofs.Prelude.{arith, ap, rules}
use Rattle.types.specs.{declared.Figure.Figure, Stored.with_list}
use Rattle.write_heads.specs.inner.Halves.{record_of}
use Rattle.write.proofs.{Outcomes.of_same, write.Statement.statement}
use Rattle.write.proofs.write.Tie as tie

returns : tie.Need-returns
returns c =
    let w = c.before.before in
    let o = w.before.before.before.before.before.before.before in
    let a = o.before.before.before.before.before.args in
    let e = a.r.charge.entries in
    of_same a.buf.now (ap (λ (g : Figure). record_of a.r.front (with_list g e.numbers e.octets)) o.octets_of-figure.ensures) w.write_from.ensures

pub write_spec : {M : Type 1} → statement M
write_spec = tie.close (tie.spec (λ c κs. search rules) (λ c κs. search rules) (λ c. omega arith) returns)
