use Rattle.std.proofs.Common.{arith}
use Rattle.write_association.proofs.Sizes.{number_count, planned_wrote, planned_1}
use Rattle.write_association.proofs.put_planned.Goals as goal

pub put_lead-p-requires : goal.put_lead-p-requires
put_lead-p-requires c = rw c.from-n.ensures (omega (arith, number_count), search planned_1)

pub returns : goal.returns
returns c = search planned_wrote
