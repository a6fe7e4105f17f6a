-- Each return by the answers that led to it.
use Rattle.coding.{specs.Codec.canonical, specs.Codec.over, proofs.Reading.reading}
use Rattle.trunk_types.specs.Bodies.{detail}
use Rattle.trunk_read_fields.proofs.{Cited.{arith, storing}, Stores.{detail_stored, detail_spare, zero_spare}, detail_at.Statement.statement}
use Rattle.trunk_read_fields.proofs.detail_at.Tie as tie

pub detail_at_spec : {M : Type 1} → statement M
unfolding detail canonical over
detail_at_spec =
    tie.close
    (tie.spec (omega arith) (omega arith) (λ c. (search (storing, reading), search zero_spare)) (omega arith) (omega arith) (omega arith)
    (λ c.
    let n = c.before.before.before.before in
    let z = n.before.before.requires.1 in
    (rw (z, detail_stored) (search (storing, reading)), rw z (detail_spare n.natural_at-n.result.value))))
