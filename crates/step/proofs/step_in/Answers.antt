use Rattle.std.proofs.Common.{ap}
use Rattle.account.specs.Step.{changed, stepped_of}
use Rattle.step.proofs.step_in.Goals as goal

pub returns : goal.returns
unfolding stepped_of
returns c = rw c.put.ensures (ap (changed c.args.a.now) c.step-w.ensures.one, c.step-w.ensures.rules)
