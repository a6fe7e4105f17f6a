-- Each return by the answers that led to it.
use Rattle.coding.{specs.Codec.shape, specs.Codec.over, specs.Codec.pair, proofs.Reading.flat, proofs.Reading.reading}
use Rattle.types.specs.Charges.{money}
use Rattle.read_figures.proofs.{Cited.{arith, rules}, Answers.storing, Kept.blank_amount, money_at.Statement.statement}
use Rattle.read_figures.proofs.money_at.Tie as tie

pub money_at_spec : {M : Type 1} → statement M
unfolding money shape over pair
money_at_spec =
    tie.close
    (tie.spec (λ c κs. search rules) (omega arith) (λ c. (simp flat (search (storing, reading)), search blank_amount)) (omega arith) (omega arith)
    (λ c. (simp flat (search (storing, reading) depth 8), search blank_amount)) (λ c κs. search rules) (omega arith)
    (λ c. (rw c.before.keep_amount.ensures.0 (simp flat (search (storing, reading) depth 8)), search)))
