-- Each return by what was read so far.
use Rattle.coding.{specs.Codec.leads, specs.Codec.canonical, specs.Codec.over, proofs.Reading.flat}
use Rattle.types.specs.Frames.{return_error, failed}
use Rattle.read_heads.proofs.{Cited.{arith, contents_of, rest_of}, Answers.heading, error_head.Statement.statement}
use Rattle.read_heads.proofs.error_head.Tie as tie

pub error_head_spec : {M : Type 1} → statement M
unfolding rest_of contents_of return_error failed leads canonical over
error_head_spec =
    tie.close (tie.spec
    (omega arith) (omega arith) (λ c. (rw c.no_head.ensures (simp flat (search heading)), rw c.no_head.ensures (omega arith))) (omega arith) (omega arith)
    (λ c. (rw c.no_head-then-o-ne0.ensures (simp flat (search heading)), rw c.no_head-then-o-ne0.ensures (omega arith)))
    (omega arith) (λ c. (rw c.no_head-then-o-n.ensures (simp flat (search heading)), rw c.no_head-then-o-n.ensures (omega arith))) (omega arith) (omega arith) (omega arith)
    (λ c. rw c.alone.ensures (simp flat (search heading), omega arith)))
