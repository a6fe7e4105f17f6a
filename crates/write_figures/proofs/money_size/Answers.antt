use Rattle.std.proofs.Common.{arith}
use Rattle.coding.proofs.Writing.{width_range}
use Rattle.write_figures.proofs.Sizes.{money_count}
use Rattle.write_figures.proofs.money_size.Goals as goal

pub overflow_add-result-2 : goal.overflow_add-result-2
overflow_add-result-2 c = omega (arith, width_range c.args.m.number, money_count)

pub returns-clause-few : goal.returns-clause-few
returns-clause-few c = omega (arith, width_range c.args.m.number, money_count)
