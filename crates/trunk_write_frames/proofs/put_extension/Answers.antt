use Rattle.prelude.proofs.Prelude.{arith}
use Rattle.coding.proofs.Writing.{room_as}
use Rattle.write_elements.proofs.Parts.{wrote_nothing, wrote_is}
use Rattle.trunk_write_frames.proofs.Extensions.{tagged_none, tagged_list, tagged_one}
use Rattle.trunk_write_frames.proofs.put_extension.Goals as goal

pub put_kept-requires-clause-room : goal.put_kept-requires-clause-room
put_kept-requires-clause-room c = room_as c.requires.room (tagged_list _ c.in-2.is _)

pub put_kept-requires-in_default-clause-room : goal.put_kept-requires-in_default-clause-room
put_kept-requires-in_default-clause-room c = room_as c.requires.room (tagged_one _ (λ z. omega arith) (λ z. omega arith) _)

pub returns-in-0 : goal.returns-in-0
returns-in-0 c = wrote_nothing (tagged_none _ c.in-0.is _)

pub returns-in-2 : goal.returns-in-2
returns-in-2 c = wrote_is (tagged_list _ c.in-2.is _) c.put_kept.ensures

pub returns-in_default : goal.returns-in_default
returns-in_default c = wrote_is (tagged_one _ (λ z. omega arith) (λ z. omega arith) _) c.put_kept-in_default.ensures
