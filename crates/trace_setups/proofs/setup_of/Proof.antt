use Rattle.prelude.proofs.Prelude.{arith, ◌∙◌}
use Rattle.trace_setups.proofs.setup_of.Statement.{statement}
use Rattle.trace_setups.proofs.setup_of.Tie as tie

pub setup_of_spec : {M : Type 1} → statement M
setup_of_spec =
    tie.close
    (tie.spec (λ c κs. c.before.requires) (λ c κs. c.before.before.requires) (λ c κs. c.before.before.before.requires)
    (omega arith)
    (λ c. let d = c.before.before in c.event_of.ensures ∙ rw (c.before.asked_from-e0.ensures, d.asked_from-d0.ensures, d.before.asked_from-s0.ensures)))
