-- Each return by the answers that led to it.
use Rattle.coding.{specs.Codec.canonical, specs.Codec.over, proofs.Reading.reading}
use Rattle.types.specs.Charges.{identified}
use Rattle.read_association.proofs.{Cited.{arith, refl, storing}, Kept.identified_kept, identified_at.Statement.statement}
use Rattle.read_association.proofs.identified_at.Tie as tie

pub identified_at_spec : {M : Type 1} → statement M
unfolding identified canonical over
identified_at_spec =
    tie.close
    (tie.spec (omega arith) (omega arith) (λ c. (search (storing, reading), (refl, refl))) (omega arith) (omega arith) (omega arith) (omega arith)
    (omega arith) (omega arith)
    (λ c.
    let c5 = c.before.before.before.before.before in
    let c7 = c5.before.before in
    let kept = identified_kept c5.identifier_long-i.result.value c7.args.figure.now c7.requires.1 in
    (rw kept.0 (search (storing, reading)), kept.1)))
