use Rattle.prelude.proofs.Prelude.{arith}
use Rattle.coding.proofs.Writing.{room_head, room_tail, room_third, wrote_both, room}
use Rattle.trunk_write_frames.specs.inner.Octets.{network_octets}
use Rattle.trunk_write_frames.proofs.put_network.Goals as goal

pub put_small-p-requires : goal.put_small-p-requires
unfolding network_octets
put_small-p-requires c = (omega (arith, c.requires.network_fine.source), search room)

pub put_address-q-requires-clause-room : goal.put_address-q-requires-clause-room
unfolding network_octets
put_address-q-requires-clause-room c = search room

pub put_small-t-requires : goal.put_small-t-requires
unfolding network_octets
put_small-t-requires c =
    (omega (arith, c.requires.network_fine.destination), room_head _ (room_third c.put_address-q.ensures c.put_small-p.ensures c.requires.room))

pub put_address-requires-clause-room : goal.put_address-requires-clause-room
unfolding network_octets
put_address-requires-clause-room c = room_tail c.put_small-t.ensures (room_third c.put_address-q.ensures c.put_small-p.ensures c.requires.room)

pub returns : goal.returns
unfolding network_octets
returns c =
    wrote_both c.put_small-p.ensures (wrote_both c.put_address-q.ensures (wrote_both c.put_small-t.ensures c.put_address.ensures))
