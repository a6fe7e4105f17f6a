-- Each return by what was read so far.
use Rattle.coding.{specs.Reader.constructed, specs.Codec.leads, specs.Codec.cons, proofs.Reading.flat}
use Rattle.types.specs.Frames.{return_result}
use Rattle.read_heads.specs.inner.Heads.{contents_of, tail_of, rest_of}
use Rattle.read_heads.proofs.{Cited.arith, Answers.heading, result_head.Statement.statement}
use Rattle.read_heads.proofs.result_head.Tie as tie

pub result_head_spec : {M : Type 1} → statement M
unfolding rest_of tail_of contents_of return_result leads cons constructed
result_head_spec =
    tie.close (tie.spec
    (omega arith) (omega arith) (λ c. (rw c.no_head.ensures (simp flat (search heading)), rw c.no_head.ensures (omega arith))) (omega arith) (omega arith)
    (λ c. (rw c.no_head-then-e-ne0.ensures (simp flat (search heading)), rw c.no_head-then-e-ne0.ensures (omega arith))) (omega arith) (omega arith)
    (λ c. (rw c.no_head-then-o-ne0.ensures (simp flat (search heading)), rw c.no_head-then-o-ne0.ensures (omega arith))) (omega arith) (omega arith) (omega arith)
    (λ c. let k = c.before.before.before in
    let value = k.before.before in
    let e = value.before in
    let opened = e.before.before in
    let i = opened.before in
    let id = i.before.before in
    rw c.lead.ensures (
      simp flat (search (heading, id.identifier_at-i.ensures.0, i.if-i-ne0.false, opened.open_at-e.ensures.0, e.if-e-ne0.false, value.value_long-o.ensures.0, k.if-o-ne0.false)),
      omega (arith, opened.open_at-e.ensures.1.1, id.before.before.requires.0),
    )))
