-- Each return by the answers that led to it.
use Rattle.prelude.proofs.Prelude.{rules, arith}
use Rattle.coding.{specs.inner.Shown.shown, specs.Codec.canonical, specs.Codec.over, proofs.Reading.reading}
use Rattle.types.specs.{Arguments.in_money, Stored.stored}
use Rattle.read_figures.proofs.Answers.{storing}
use Rattle.read_charges.specs.inner.Readers.{amount_by}
use Rattle.read_lengths.proofs.Answers.{when}
use Rattle.read_lists.proofs.Clear.{clear}
use Rattle.read_charges.proofs.{Stores.money_stored, Steps.pick_read, price_in.Statement.statement}
use Rattle.read_charges.proofs.price_in.Tie as tie

pub price_in_spec : {M : Type 1} → statement M
unfolding amount_by in_money canonical over stored shown
price_in_spec =
    tie.close
    (tie.spec (λ c. omega arith) (λ c κs. search rules) (λ c. (rw pick_read (search when), search)) (λ c κs. search rules) (λ c. omega arith)
    (λ c. (rw pick_read (search (storing, when, reading)), search clear)) (λ c. omega arith) (λ c. omega arith)
    (λ c. (rw pick_read (search (money_stored, storing, when, reading)), search clear)))
