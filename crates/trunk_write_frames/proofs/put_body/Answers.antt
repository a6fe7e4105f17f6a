use Rattle.prelude.proofs.Prelude.{arith}
use Rattle.coding.proofs.Writing.{room_as}
use Rattle.write_elements.proofs.Parts.{wrote_is, room_3, wrote_three}
use Rattle.trunk_write_frames.proofs.Dispatch.{form_room, form_wrote, room_1, room_mid}
use Rattle.trunk_write_frames.proofs.Bodies.{asked_plain, form_asked, other_valid, other_length, other_octets}
use Rattle.trunk_write_frames.proofs.put_body.Goals as goal

pub put_null-requires : goal.put_null-requires
put_null-requires c = room_as c.requires.room (asked_plain _ c.args.parts.now c.if-form-eq-GET_FINAL_CHARGE.true c.if-parts-eq-NOT.true)

pub returns-then-parts-eq-NOT : goal.returns-then-parts-eq-NOT
returns-then-parts-eq-NOT c = wrote_is (asked_plain _ c.args.parts.now c.if-form-eq-GET_FINAL_CHARGE.true c.if-parts-eq-NOT.true) c.put_null.ensures

pub put_extension-requires : goal.put_extension-requires
put_extension-requires c =
    let r = form_room (form_asked _ c.args.parts.now c.requires.valid c.if-form-eq-GET_FINAL_CHARGE.true c.if-parts-eq-NOT.false) c.requires.room in
    record { counted = r.0; room = r.1 }

pub returns-then-form-eq-GET_FINAL_CHARGE : goal.returns-then-form-eq-GET_FINAL_CHARGE
returns-then-form-eq-GET_FINAL_CHARGE c = form_wrote (form_asked _ c.args.parts.now c.requires.valid c.if-form-eq-GET_FINAL_CHARGE.true c.if-parts-eq-NOT.false) c.put_extension.ensures

pub inner_size-n-requires : goal.inner_size-n-requires
inner_size-n-requires c = (other_valid _ c.args.parts.now c.requires.valid c.if-form-eq-GET_FINAL_CHARGE.false).0

pub extension_size-k-requires : goal.extension_size-k-requires
extension_size-k-requires c = (other_valid _ c.args.parts.now c.requires.valid c.if-form-eq-GET_FINAL_CHARGE.false).1.asked

pub put_lead-p-requires : goal.put_lead-p-requires
put_lead-p-requires c =
    let e = c.if-form-eq-GET_FINAL_CHARGE.false in let n = c.inner_size-n.ensures.value in let k = c.extension_size-k.ensures.by_index in
    (omega (arith, other_length _ c.args.parts.now c.requires.valid e n k, c.requires.few), room_1 _ (other_octets _ c.args.parts.now c.requires.valid e n k) c.requires.room)

pub put_inner-q-requires : goal.put_inner-q-requires
put_inner-q-requires c =
    let e = c.if-form-eq-GET_FINAL_CHARGE.false in let n = c.inner_size-n.ensures.value in let k = c.extension_size-k.ensures.by_index in
    record {
      valid = (other_valid _ c.args.parts.now c.requires.valid e).0;
      few = omega (arith, other_length _ c.args.parts.now c.requires.valid e n k, c.requires.few, n);
      room = room_mid _ (other_octets _ c.args.parts.now c.requires.valid e n k) c.requires.room c.put_lead-p.ensures;
    }

pub put_extension-requires-2 : goal.put_extension-requires-2
put_extension-requires-2 c =
    let e = c.if-form-eq-GET_FINAL_CHARGE.false in let n = c.inner_size-n.ensures.value in let k = c.extension_size-k.ensures.by_index in
    record {
      counted = (other_valid _ c.args.parts.now c.requires.valid e).1.asked;
      room = room_3 (other_octets _ c.args.parts.now c.requires.valid e n k) c.requires.room c.put_lead-p.ensures c.put_inner-q.ensures;
    }

pub returns : goal.returns
returns c =
    wrote_three (other_octets _ c.args.parts.now c.requires.valid c.if-form-eq-GET_FINAL_CHARGE.false c.inner_size-n.ensures.value c.extension_size-k.ensures.by_index) c.put_lead-p.ensures c.put_inner-q.ensures c.put_extension-2.ensures
