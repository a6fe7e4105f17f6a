-- By the error.
use Rattle.prelude.proofs.Prelude.{arith, rules, eq-eqb, ne_eqb}
use Rattle.coding.{specs.Reader.after, specs.Codec.canonical, specs.Codec.over, specs.Codec.nothing, proofs.Reading.gives, proofs.Reading.picks_run, proofs.Reading.skips_run}
use Rattle.trunk_types.specs.Extensions.{unextended}
use Rattle.read_figures.proofs.Answers.{arrived}
use Rattle.trunk_read_frames.proofs.failing_at.Statement.{statement}
use Rattle.trunk_read_frames.proofs.failing_at.Tie as tie

pub failing_at_spec : {M : Type 1} → statement M
unfolding unextended canonical over nothing after
failing_at_spec =
    tie.close
    (tie.spec (λ c κs. search rules) (λ c. picks_run _ _ _ _ _ _ (eq-eqb _ 1008 c.before.before.if-error-eq-UNSPECIFIED.true) c.parameter_at.ensures) (omega arith)
    (λ c.
    let e = c.before in
    skips_run _ _ _ _ _ _ (ne_eqb _ 1008 e.if-error-eq-UNSPECIFIED.false) (rw e.before.before.requires.1 (arrived _ _ c.reached.ensures (gives _ _ _)))))
