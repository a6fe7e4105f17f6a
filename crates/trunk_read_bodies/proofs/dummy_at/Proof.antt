-- By the next tag.
use Rattle.prelude.proofs.Prelude.{arith, rules}
use Rattle.coding.{specs.Codec.sort, specs.Codec.canonical, specs.Codec.over, proofs.Reading.picks, proofs.Reading.skips}
use Rattle.trunk_types.specs.{Extensions.no_extension, Bodies.no_body, Bodies.extending, Bodies.dummy}
use Rattle.trunk_read_bodies.proofs.{Stores.nothing_there, Stores.inner_on, dummy_at.Statement.statement}
use Rattle.trunk_read_bodies.proofs.dummy_at.Tie as tie

pub dummy_at_spec : {M : Type 1} → statement M
unfolding dummy sort canonical over
dummy_at_spec =
    tie.close
    (tie.spec (omega arith) (omega arith) (λ c. search (picks, nothing_there)) (λ c κs. search rules)
    (λ c. let found = inner_on extending no_extension no_body _ _ _ c.some_at.ensures in search skips))
