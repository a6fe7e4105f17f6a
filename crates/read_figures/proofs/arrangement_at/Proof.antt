-- Each return by the answers that led to it.
use Rattle.coding.{specs.Reader.part, specs.Codec.canonical, specs.Codec.over, proofs.Reading.reading}
use Rattle.types.specs.{Arguments.arrangement, Stored.figure_in}
use Rattle.read_figures.proofs.{Cited.arith, Answers.storing, arrangement_at.Statement.statement}
use Rattle.read_figures.proofs.arrangement_at.Tie as tie

pub arrangement_at_spec : {M : Type 1} → statement M
unfolding arrangement canonical over figure_in part
arrangement_at_spec =
    tie.close
    (tie.spec (omega arith) (omega arith) (λ c. search (storing, reading)) (omega arith) (omega arith) (omega arith) (omega arith)
    (λ c.
    let a = c.before.before.before in
    rw a.before.before.before.requires.1 (search (storing, reading))))
