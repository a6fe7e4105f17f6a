use Rattle.prelude.proofs.Prelude.{arith}
use Rattle.write_elements.proofs.Parts.{room_3, wrote_three}
use Rattle.trunk_write_frames.proofs.Dispatch.{room_1, room_mid}
use Rattle.trunk_write_frames.proofs.Frames.{invoke_body, invoke_operation, invoke_split, invoke_within}
use Rattle.trunk_write_frames.proofs.put_invoke.Goals as goal

pub put_id-p-requires : goal.put_id-p-requires
put_id-p-requires c = room_1 _ (invoke_split c.args.parts.now c.requires.valid c.id_of.ensures) c.requires.room

pub put_small-q-requires : goal.put_small-q-requires
put_small-q-requires c =
    (invoke_operation c.args.parts.now c.requires.valid, room_mid _ (invoke_split c.args.parts.now c.requires.valid c.id_of.ensures) c.requires.room c.put_id-p.ensures)

pub put_body-requires : goal.put_body-requires
put_body-requires c = record {
  valid = invoke_body c.args.parts.now c.requires.valid;
  few = omega (arith, invoke_within c.args.parts.now c.requires.valid, c.requires.few);
  room = room_3 (invoke_split c.args.parts.now c.requires.valid c.id_of.ensures) c.requires.room c.put_id-p.ensures c.put_small-q.ensures;
}

pub returns : goal.returns
returns c = wrote_three (invoke_split c.args.parts.now c.requires.valid c.id_of.ensures) c.put_id-p.ensures c.put_small-q.ensures c.put_body.ensures
