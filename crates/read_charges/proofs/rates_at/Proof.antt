-- Each return by the answers that led to it.
use Rattle.prelude.proofs.Prelude.{rules, arith}
use Rattle.coding.{specs.Reader.constructed, specs.Codec.cons, specs.Codec.canonical, specs.Codec.over, specs.Codec.some_more, proofs.Reading.reading, proofs.Reading.step}
use Rattle.read_lists.specs.inner.Answers.{in_rates}
use Rattle.types.specs.Arguments.{rates}
use Rattle.read_figures.proofs.Answers.{storing, closes}
use Rattle.read_charges.proofs.rates_at.Statement.{statement}
use Rattle.read_charges.proofs.rates_at.Tie as tie

pub rates_at_spec : {M : Type 1} → statement M
unfolding rates cons canonical over some_more constructed in_rates
rates_at_spec =
    tie.close
    (tie.spec (λ c. omega arith) (λ c. omega arith) (λ c. search (storing, reading)) (λ c κs. search rules) (λ c. omega arith)
    (λ c. search (step, closes _ _ _ _ _ _ c.closed.ensures c.before.rates_in-r.ensures) depth 8))
