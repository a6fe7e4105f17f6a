use Rattle.std.proofs.Common.{arith}
use Rattle.write_rates.proofs.Tables.{sizing_more, sizing_done}
use Rattle.write_charges.proofs.units_size.Goals as goal

pub loop-i-preserved : goal.loop-i-preserved
loop-i-preserved c = search sizing_more

pub returns-clause-value : goal.returns-clause-value
returns-clause-value c = sizing_done c.loop-i.invariant (λ z. omega arith)
