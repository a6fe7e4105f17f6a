-- Each return by the answers that led to it.
use Rattle.prelude.proofs.Prelude.{arith, ◌∙◌}
use Rattle.coding.{specs.Codec.canonical, specs.Codec.over, proofs.Reading.reading}
use Rattle.types.specs.Rates.{plain_rate}
use Rattle.read_rate.proofs.plain_rate_at.Statement.{statement}
use Rattle.read_rate.proofs.plain_rate_at.Tie as tie

pub plain_rate_at_spec : {M : Type 1} → statement M
unfolding plain_rate canonical over
plain_rate_at_spec =
    tie.close
    (tie.spec (omega arith) (omega arith) (λ c. c.no_rate.ensures ∙ (search reading)) (omega arith) (λ c. c.untimed.ensures ∙ (search reading)))
