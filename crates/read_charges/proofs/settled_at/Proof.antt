-- Each return by the answers that led to it.
use Rattle.prelude.proofs.Prelude.{arith, rules}
use Rattle.coding.proofs.Reading.{reading}
use Rattle.read_charges.proofs.{Stores.plain_stored, Steps.settled_read, settled_at.Statement.statement}
use Rattle.read_charges.proofs.settled_at.Tie as tie

pub settled_at_spec : {M : Type 1} → statement M
settled_at_spec =
    tie.close
    (tie.spec (omega arith) (λ c κs. search rules) (λ c. (rw settled_read (search (plain_stored, reading)), search)) (λ c κs. search rules)
    (λ c. (rw settled_read (search reading), search)))
