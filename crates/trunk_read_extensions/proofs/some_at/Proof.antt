-- By the next tag.
use Rattle.prelude.proofs.Prelude.{arith, rules}
use Rattle.coding.{specs.Codec.sort, proofs.Reading.picks, proofs.Reading.skips}
use Rattle.trunk_types.specs.Extensions.{some_extension}
use Rattle.trunk_read_extensions.proofs.some_at.Statement.{statement}
use Rattle.trunk_read_extensions.proofs.some_at.Tie as tie

pub some_at_spec : {M : Type 1} → statement M
unfolding some_extension sort
some_at_spec =
    tie.close
    (tie.spec (omega arith) (λ c κs. search rules) (λ c. search (picks, skips)) (λ c κs. search rules) (λ c. search (picks, skips)))
