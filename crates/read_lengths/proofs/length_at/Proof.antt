use Rattle.prelude.proofs.Prelude.{arith, sym, ◌∙◌}
use Rattle.coding.{specs.Reader.length_at, proofs.Search.endless_is}
use Rattle.read_lengths.proofs.{Answers.when, length_at.Statement.statement}
use Rattle.read_lengths.proofs.length_at.Tie as tie

pub length_at_spec : {M : Type 1} → statement M
unfolding length_at
length_at_spec =
    tie.close
    (tie.spec (omega arith) (λ c. omega (arith, (endless_is _ _ _ _ (sym c.before.is_endless.ensures ∙ c.if-is_endless.true)).0)) (omega arith)
    (λ c. (search when, c.span_at.ensures.1)) (omega arith) (λ c. (search when, c.numbered_at.ensures.1)))
