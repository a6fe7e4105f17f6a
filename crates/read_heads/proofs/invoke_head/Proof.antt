-- Each return by what was read so far.
use Rattle.coding.{specs.Codec.leads, proofs.Reading.flat}
use Rattle.types.specs.Frames.{invoke}
use Rattle.read_heads.proofs.{Cited.{arith, contents_of, rest_of}, Answers.{heading, tail_one}, invoke_head.Statement.statement}
use Rattle.read_heads.proofs.invoke_head.Tie as tie

pub invoke_head_spec : {M : Type 1} → statement M
unfolding rest_of contents_of invoke leads
invoke_head_spec =
    tie.close (tie.spec
    (omega arith) (omega arith) (λ c. (rw c.no_head.ensures (simp flat (search heading)), rw c.no_head.ensures (omega arith))) (omega arith) (omega arith)
    (λ c. (rw c.no_head-then-o-ne0.ensures (simp flat (search heading)), rw c.no_head-then-o-ne0.ensures (omega arith))) (omega arith) (omega arith) (omega arith)
    (λ c. rw c.lead.ensures (simp flat (search (heading, tail_one)), omega arith)))
