use Rattle.prelude.proofs.Prelude.{arith}
use Rattle.coding.proofs.Writing.{room_head, room_tail, wrote_both}
use Rattle.write_elements.proofs.Parts.{room_2, wrote_two}
use Rattle.trunk_write_frames.proofs.Dispatch.{room_1, room_mid}
use Rattle.trunk_write_frames.proofs.Frames.{result_body, result_operation, result_split, result_within}
use Rattle.trunk_write_frames.proofs.put_result.Goals as goal

pub body_size-n-requires : goal.body_size-n-requires
body_size-n-requires c = result_body c.args.parts.now c.requires.valid c.result_form-form.ensures

pub put_id-p-requires : goal.put_id-p-requires
put_id-p-requires c = room_1 _ (result_split c.args.parts.now c.requires.valid c.result_form-form.ensures c.body_size-n.ensures.value c.id_of.ensures) c.requires.room

pub put_lead-q-requires : goal.put_lead-q-requires
put_lead-q-requires c = (
  omega (arith, result_within c.args.parts.now c.requires.valid c.result_form-form.ensures c.body_size-n.ensures.value, c.requires.few),
  room_mid _ (result_split c.args.parts.now c.requires.valid c.result_form-form.ensures c.body_size-n.ensures.value c.id_of.ensures) c.requires.room c.put_id-p.ensures,
)

pub put_small-t-requires : goal.put_small-t-requires
put_small-t-requires c =
    (result_operation c.args.parts.now c.requires.valid, room_head _ (room_tail c.put_lead-q.ensures (room_2 (result_split c.args.parts.now c.requires.valid c.result_form-form.ensures c.body_size-n.ensures.value c.id_of.ensures) c.requires.room c.put_id-p.ensures)))

pub put_body-requires : goal.put_body-requires
put_body-requires c = record {
  valid = result_body c.args.parts.now c.requires.valid c.result_form-form.ensures;
  few = omega (arith, result_within c.args.parts.now c.requires.valid c.result_form-form.ensures c.body_size-n.ensures.value, c.requires.few, c.body_size-n.ensures.value);
  room = room_tail c.put_small-t.ensures (room_tail c.put_lead-q.ensures (room_2 (result_split c.args.parts.now c.requires.valid c.result_form-form.ensures c.body_size-n.ensures.value c.id_of.ensures) c.requires.room c.put_id-p.ensures));
}

pub returns : goal.returns
returns c = wrote_two (result_split c.args.parts.now c.requires.valid c.result_form-form.ensures c.body_size-n.ensures.value c.id_of.ensures) c.put_id-p.ensures (wrote_both c.put_lead-q.ensures (wrote_both c.put_small-t.ensures c.put_body.ensures))
