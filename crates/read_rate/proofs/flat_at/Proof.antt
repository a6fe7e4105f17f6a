-- Each return by the answers that led to it.
use Rattle.prelude.proofs.Prelude.{arith, ◌∙◌}
use Rattle.coding.{specs.Reader.constructed, specs.Codec.cons, specs.Codec.canonical, specs.Codec.over, proofs.Reading.flat, proofs.Reading.reading, proofs.Reading.remains}
use Rattle.coding.{proofs.Reading.shut, proofs.Reading.step}
use Rattle.types.specs.Rates.{flat_rate}
use Rattle.read_rate.proofs.flat_at.Statement.{statement}
use Rattle.read_rate.proofs.flat_at.Tie as tie

pub flat_at_spec : {M : Type 1} → statement M
unfolding flat_rate cons canonical over constructed
flat_at_spec =
    tie.close
    (tie.spec (omega arith) (omega arith) (λ c. simp flat (c.no_rate.ensures ∙ (search reading))) (omega arith) (omega arith)
    (λ c. simp flat (c.no_rate-then-m-ne0.ensures ∙ (search reading depth 8))) (omega arith)
    (λ c. simp flat (c.no_rate-then-m-e.ensures ∙ (search (step, remains) depth 8))) (omega arith)
    (λ c. simp flat (c.untimed.ensures ∙ (search (step, shut) depth 8))))
