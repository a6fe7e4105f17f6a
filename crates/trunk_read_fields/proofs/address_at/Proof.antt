-- By the next tag.
use Rattle.prelude.proofs.Prelude.{arith, rules, refl}
use Rattle.coding.{specs.Reader.after, specs.Codec.sort, specs.Codec.canonical, specs.Codec.over, specs.Codec.nothing, proofs.Reading.picks, proofs.Reading.skips, proofs.Reading.gives}
use Rattle.types.specs.Charges.{unassociated}
use Rattle.trunk_types.specs.Bodies.{address}
use Rattle.read_figures.proofs.Answers.{arrived}
use Rattle.read_association.proofs.Kept.{unassociated_none}
use Rattle.trunk_read_fields.proofs.address_at.Statement.{statement}
use Rattle.trunk_read_fields.proofs.address_at.Tie as tie

pub address_at_spec : {M : Type 1} → statement M
unfolding address sort unassociated canonical over nothing after
address_at_spec =
    tie.close
    (tie.spec (omega arith) (λ c κs. search rules) (λ c. (search (picks, skips), search)) (omega arith)
    (λ c.
    let a = c.before.before.before.before in
    (rw (unassociated_none a.args.figure.now a.requires.1) (search (arrived, picks, skips, gives)), (refl, refl))))
