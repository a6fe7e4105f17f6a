-- Each return by the answers that led to it.
use Rattle.prelude.proofs.Prelude.{arith, ◌∙◌}
use Rattle.coding.{specs.Reader.constructed, specs.Codec.cons, specs.Codec.canonical, specs.Codec.over, specs.Codec.pair, proofs.Reading.flat, proofs.Reading.reading, proofs.Reading.remains}
use Rattle.coding.{proofs.Reading.shut, proofs.Reading.stay, proofs.Reading.step}
use Rattle.types.specs.Rates.{volume}
use Rattle.read_rate.proofs.volume_at.Statement.{statement}
use Rattle.read_rate.proofs.volume_at.Tie as tie

pub volume_at_spec : {M : Type 1} → statement M
unfolding volume cons canonical over pair constructed
volume_at_spec =
    tie.close
    (tie.spec (omega arith) (omega arith) (λ c. simp flat (c.no_rate.ensures ∙ (search reading))) (omega arith) (omega arith)
    (λ c. simp flat (c.no_rate-then-m-ne0.ensures ∙ (search reading depth 8))) (omega arith) (omega arith)
    (λ c. simp flat (c.no_rate-then-d-ne0.ensures ∙ (search (step, stay) depth 8))) (omega arith)
    (λ c.
    let o = c.open_at-e.ensures.0 in
    simp flat (c.no_rate-then-d-e.ensures ∙ (search (step, remains) depth 8)))
    (omega arith) (omega arith)
    (λ c.
    let o = c.open_at-e.ensures.0 in
    simp flat (c.untimed.ensures ∙ (search (step, shut) depth 8))))
