use Rattle.prelude.proofs.Prelude.{arith, ap, rules}
use Rattle.types.specs.{declared.Figure.Figure, Stored.with_list}
use Rattle.write_heads.specs.inner.Halves.{record_of}
use Rattle.write.proofs.{Outcomes.of_same, write_from.Statement.statement}
use Rattle.write.proofs.write_from.Tie as tie

returns : tie.Need-returns
returns c =
    let c3 = c.before.before.before in
    let a = c3.before.before.before.args in
    of_same a.buf.now (ap (λ (g : Figure). record_of a.f (with_list g a.numbers.now a.rows.now)) c3.before.figure_of-g.ensures) c.before.before.put_record.ensures

pub write_from_spec : {M : Type 1} → statement M
write_from_spec = tie.close (tie.spec (λ c κs. search rules) (λ c κs. c.before.figure_of-g.ensures) (λ c. omega arith) returns)
