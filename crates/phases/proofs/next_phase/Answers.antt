use Rattle.prelude.proofs.Prelude.{refl}
use Rattle.phases.proofs.Transitions.{next_none}
use Rattle.phases.proofs.next_phase.Goals as goal

pub returns-in-0 : goal.returns-in-0
returns-in-0 c = rw (next_none c.args.kind c.args.phase c.led_to.result c.led_to.ensures c.in-0.is) refl
