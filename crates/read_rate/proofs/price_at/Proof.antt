-- Each return by the answers that led to it.
use Rattle.prelude.proofs.Prelude.{arith}
use Rattle.coding.{specs.Codec.sort, proofs.Reading.picks, proofs.Reading.skips, proofs.Reading.picks_run, proofs.Reading.skips_run}
use Rattle.types.specs.Rates.{price}
use Rattle.read_rate.proofs.price_at.Statement.{statement}
use Rattle.read_rate.proofs.price_at.Tie as tie

pub price_at_spec : {M : Type 1} → statement M
unfolding price sort
price_at_spec =
    tie.close
    (tie.spec (omega arith) (omega arith) (λ c. search (picks, skips) depth 8) (omega arith) (omega arith) (λ c. search (picks, skips) depth 8)
    (omega arith) (omega arith) (λ c. search (picks, skips) depth 8) (omega arith) (omega arith) (λ c. search (picks, skips) depth 8) (omega arith)
    (omega arith) (λ c. search (picks, skips) depth 8) (omega arith) (λ c. search (picks, skips, picks_run, skips_run) depth 8) (omega arith) (λ c. search (picks, skips, picks_run, skips_run) depth 8))
