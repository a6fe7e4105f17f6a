-- Each return by the answers that led to it.
use Rattle.prelude.proofs.Prelude.{arith, rules}
use Rattle.coding.{specs.Codec.sort, proofs.Reading.reading}
use Rattle.types.specs.Arguments.{settled}
use Rattle.trunk_types.specs.Bodies.{figures}
use Rattle.trunk_read_charges.proofs.figure_at.Statement.{statement}
use Rattle.trunk_read_charges.proofs.figure_at.Tie as tie

pub figure_at_spec : {M : Type 1} → statement M
unfolding figures settled sort
figure_at_spec =
    tie.close
    (tie.spec (omega arith) (λ c κs. search rules) (λ c. (search reading, search)) (omega arith) (λ c κs. search rules) (λ c. (search reading, search)) (λ c κs. search rules)
    (λ c. (search reading, search)))
