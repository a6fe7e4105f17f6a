-- By the next tag.
use Rattle.prelude.proofs.Prelude.{arith, rules}
use Rattle.coding.{specs.Reader.after, specs.Codec.sort, specs.Codec.canonical, specs.Codec.over, specs.Codec.nothing, proofs.Reading.picks, proofs.Reading.skips, proofs.Reading.gives}
use Rattle.trunk_types.specs.Extensions.{any_extension, unextended}
use Rattle.read_figures.proofs.Answers.{arrived}
use Rattle.trunk_read_extensions.proofs.extension_if.Statement.{statement}
use Rattle.trunk_read_extensions.proofs.extension_if.Tie as tie

pub extension_if_spec : {M : Type 1} → statement M
unfolding any_extension sort unextended canonical over nothing after
extension_if_spec =
    tie.close
    (tie.spec (omega arith) (λ c κs. search rules) (λ c. search (picks, skips)) (omega arith) (λ c κs. search rules) (λ c. search (picks, skips)) (omega arith)
    (λ c.
    let e = c.before.before.before in
    rw e.before.before.before.requires.1 (search (arrived, picks, skips, gives))))
