-- Each return by the answers that led to it.
use Rattle.coding.{specs.Reader.constructed, specs.Codec.cons, proofs.Reading.{reading, step}}
use Rattle.types.specs.Charges.{party}
use Rattle.read_association.proofs.{Cited.{arith, rules, refl, storing, closes}, party_at.Statement.statement}
use Rattle.read_association.proofs.party_at.Tie as tie

pub party_at_spec : {M : Type 1} → statement M
unfolding party cons constructed
party_at_spec =
    tie.close
    (tie.spec (omega arith) (omega arith) (λ c. (search (storing, reading), (refl, refl))) (λ c κs. search rules) (omega arith)
    (λ c. (search (step, closes _ _ _ _ _ _ c.closed.ensures c.before.number_at-p.ensures.0), search)))
