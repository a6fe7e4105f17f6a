use Rattle.prelude.proofs.Prelude.{sym, arith}
use Rattle.phases.specs.Phases.{allowed, leads_to}
use Rattle.phases.proofs.{Transitions.past_kind, Transitions.past_phase, Transitions.look_up, led_to.Statement.statement}
use Rattle.phases.proofs.led_to.Tie as tie

-- the code's table is the one computed from the transitions
returns-3 : tie.Need-returns
unfolding allowed leads_to
returns-3 c = look_up c.before.before.args.kind c.before.before.args.phase c.before.if-kind-gt7.false c.if-phase-gt7.false

pub led_to_spec : {M : Type 1} → statement M
led_to_spec =
    tie.close
    (tie.spec (λ c. sym (past_kind c.before.args.kind c.before.args.phase c.if-kind-gt7.true))
    (λ c. sym (past_phase c.before.before.args.kind c.before.before.args.phase c.if-phase-gt7.true)) (omega arith) (omega arith) (omega arith)
    (omega arith) (omega arith) returns-3)
