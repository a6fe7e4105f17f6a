-- Each return by the answers that led to it.
use Rattle.coding.{specs.Codec.sort, proofs.Reading.picks, proofs.Reading.skips, proofs.Reading.picks_run, proofs.Reading.skips_run}
use Rattle.types.specs.Charges.{party_number}
use Rattle.read_association.proofs.{Cited.{arith, rules}, Steps.plain_steps, number_at.Statement.statement}
use Rattle.read_association.proofs.number_at.Tie as tie

pub number_at_spec : {M : Type 1} → statement M
unfolding party_number sort
number_at_spec =
    tie.close
    (tie.spec (omega arith) (λ c κs. search rules) (λ c. (search (picks, skips), search)) (λ c κs. search rules)
    (λ c. (search (picks, skips, picks_run, skips_run), search)) (λ c κs. search rules)
    (λ c. (search (picks, skips, picks_run, skips_run, plain_steps), search)))
