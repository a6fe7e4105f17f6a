use Rattle.std.proofs.Common.{arith}
use Rattle.write_rates.proofs.Tables.{left_valid, putting_room, putting_done}
use Rattle.write_charges.proofs.put_units.Goals as goal

pub put_unit-next-requires-clause-u_value : goal.put_unit-next-requires-clause-u_value
put_unit-next-requires-clause-u_value c = search left_valid

pub put_unit-next-requires-clause-room : goal.put_unit-next-requires-clause-room
put_unit-next-requires-clause-room c = search putting_room

pub returns : goal.returns
returns c = putting_done c.loop-i.invariant (λ z. omega arith)
