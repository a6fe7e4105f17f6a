-- Each return by the answers that led to it.
use Rattle.coding.{specs.Reader.constructed, specs.Codec.{cons, shape, over, pair}, proofs.Reading.{flat, reading, remains, shut, step}}
use Rattle.types.specs.Charges.{scaled}
use Rattle.read_figures.proofs.{Cited.{arith, ◌∙◌}, amount_at.Statement.statement}
use Rattle.read_figures.proofs.amount_at.Tie as tie

pub amount_at_spec : {M : Type 1} → statement M
unfolding scaled cons shape over pair constructed
amount_at_spec =
    tie.close
    (tie.spec (omega arith) (omega arith) (λ c. (simp flat (c.no_scaled.ensures.0 ∙ (search reading depth 8)), omega arith)) (omega arith)
    (omega arith) (λ c. (simp flat (c.no_scaled-then-n-ne0.ensures.0 ∙ (search reading depth 8)), omega arith)) (omega arith) (omega arith)
    (λ c. (simp flat (c.no_scaled-then-m-ne0.ensures.0 ∙ (search reading depth 8)), omega arith)) (omega arith)
    (λ c.
    let c6 = c.before.before.before.before.before.before in
    let opened = c6.before.before.before.before.before.before.open_at-e.ensures.0 in
    (simp flat (c.no_scaled-then-m-e.ensures.0 ∙ (search (step, remains) depth 8)), omega arith))
    (omega arith) (λ c. (simp flat (search (step, shut) depth 8), omega arith)))
