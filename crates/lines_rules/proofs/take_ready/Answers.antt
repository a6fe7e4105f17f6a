use Rattle.std.proofs.Common.{arith}
use Rattle.lines_rules.proofs.Steps.{taken_none, heard_left}
use Rattle.lines_rules.proofs.take_ready.Goals as goal

pub returns-clause-heard : goal.returns-clause-heard
returns-clause-heard c = rw c.went_to.ensures (heard_left {s = c.args.s.now} {from = c.args.from} 0 (omega arith) (omega arith) (taken_none _ _ _ _)).0
