use Rattle.std.proofs.Common.{arith}
use Rattle.coding.proofs.Writing.{width_range}
use Rattle.write_figures.proofs.scaled_size.Goals as goal

pub overflow_add-result : goal.overflow_add-result
overflow_add-result c = omega (arith, width_range c.args.s.number)

pub returns-clause-few : goal.returns-clause-few
returns-clause-few c = omega (arith, width_range c.args.s.number)
