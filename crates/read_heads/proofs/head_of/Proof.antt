use Rattle.prelude.proofs.Prelude.{arith, sym, ◌∙◌}
use Rattle.types.{proofs.Theorems.read_long, specs.Frames.frame}
use Rattle.read_heads.proofs.{Cited.rest_of, Entered.framing, head_of.Statement.statement}
use Rattle.read_heads.proofs.head_of.Tie as tie

pub head_of_spec : {M : Type 1} → statement M
unfolding rest_of frame
head_of_spec =
    tie.close (tie.spec
    (omega arith) (λ c. (rw c.no_head.ensures (sym (read_long _ c.before.if-n-gt254.true)), rw c.no_head.ensures (omega arith))) (omega arith) (omega arith)
    (λ c. (rw c.no_head-then-e-ne0.ensures (search framing), rw c.no_head-then-e-ne0.ensures (omega arith))) (λ c. omega (arith, c.before.before.before.enter-e.ensures.1.0 c.before.if-e-ne0.false))
    (omega arith) (omega arith) (omega arith) (omega arith)
    (λ c. (c.invoke_head.ensures.0 ∙ search framing, (c.invoke_head.ensures.1, omega (arith, c.invoke_head.ensures.1))))
    (λ c. (c.result_head.ensures.0 ∙ search (framing, c.before.in-162.is), (c.result_head.ensures.1, omega (arith, c.result_head.ensures.1))))
    (λ c. (c.error_head.ensures.0 ∙ search (framing, c.before.in-163.is), (c.error_head.ensures.1, omega (arith, c.error_head.ensures.1))))
    (λ c. (c.reject_head.ensures.0 ∙ search framing, (c.reject_head.ensures.1, omega (arith, c.reject_head.ensures.1)))))
