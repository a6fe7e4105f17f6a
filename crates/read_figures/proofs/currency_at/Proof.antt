-- Each return by the answers that led to it.
use Rattle.coding.{specs.Reader.primitive, specs.Codec.prim, proofs.Reading.reading}
use Rattle.types.specs.Charges.{currency}
use Rattle.read_figures.proofs.{Cited.{arith, rules}, Answers.storing, Kept.blank_currency, currency_at.Statement.statement}
use Rattle.read_figures.proofs.currency_at.Tie as tie

pub currency_at_spec : {M : Type 1} → statement M
unfolding currency prim primitive
currency_at_spec =
    tie.close
    (tie.spec (omega arith) (omega arith) (λ c. (search (storing, reading), search blank_currency)) (λ c κs. search rules) (omega arith)
    (λ c. (search (storing, reading), search)) (omega arith) (λ c. (search (storing, reading), search)))
