use Rattle.std.proofs.Common.{arith}
use Rattle.write_rates.proofs.Tables.{left_valid, putting_room, putting_done}
use Rattle.write_rates.proofs.put_rates.Goals as goal

pub put_rate-next-requires : goal.put_rate-next-requires
put_rate-next-requires c = search (left_valid, putting_room)

pub returns : goal.returns
returns c = putting_done c.loop-i.invariant (λ z. omega arith)
