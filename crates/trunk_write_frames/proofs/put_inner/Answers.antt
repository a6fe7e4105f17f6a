use Rattle.prelude.proofs.Prelude.{inl, inr, ap, arith, length}
use Rattle.write_elements.proofs.Parts.{room_2, wrote_two}
use Rattle.trunk_write_frames.proofs.Dispatch.{form_room, form_wrote, room_1}
use Rattle.trunk_write_frames.proofs.Forms.{form_detail, form_59, form_64, form_65, form_charge}
use Rattle.trunk_write_frames.proofs.put_inner.Goals as goal

pub put_small-requires : goal.put_small-requires
put_small-requires c = form_room (form_detail c.args.parts.now c.requires.valid (inl c.in-1.is)) c.requires.room

pub returns-in-1 : goal.returns-in-1
returns-in-1 c = form_wrote (form_detail c.args.parts.now c.requires.valid (inl c.in-1.is)) c.put_small.ensures

pub put_small-requires-in-2 : goal.put_small-requires-in-2
put_small-requires-in-2 c = form_room (form_detail c.args.parts.now c.requires.valid (inr c.in-2.is)) c.requires.room

pub returns-in-2 : goal.returns-in-2
returns-in-2 c = form_wrote (form_detail c.args.parts.now c.requires.valid (inr c.in-2.is)) c.put_small-in-2.ensures

pub put_modes-requires : goal.put_modes-requires
put_modes-requires c =
    let f = form_59 c.args.parts.now c.requires.valid (omega arith) c.in-59.is in
    let r = form_room f c.requires.room in
    record { front_bound = r.0; room = r.1 }

pub returns-in-59 : goal.returns-in-59
returns-in-59 c = form_wrote (form_59 c.args.parts.now c.requires.valid (omega arith) c.in-59.is) c.put_modes.ensures

pub put_users-requires : goal.put_users-requires
put_users-requires c = let r = form_room (form_64 c.args.parts.now c.requires.valid c.in-64.is) c.requires.room in record { front_value = r.0; room = r.1 }

pub returns-in-64 : goal.returns-in-64
returns-in-64 c = form_wrote (form_64 c.args.parts.now c.requires.valid c.in-64.is) c.put_users.ensures

pub put_users-p-requires : goal.put_users-p-requires
put_users-p-requires c =
    let f = form_65 c.args.parts.now c.requires.valid c.in-65.is in record { front_value = f.asked.0; room = room_1 _ f.octets c.requires.room }

pub put_small-requires-in-65 : goal.put_small-requires-in-65
put_small-requires-in-65 c = let f = form_65 c.args.parts.now c.requires.valid c.in-65.is in (f.asked.1, room_2 f.octets c.requires.room c.put_users-p.ensures)

pub returns-in-65 : goal.returns-in-65
returns-in-65 c = wrote_two (form_65 c.args.parts.now c.requires.valid c.in-65.is).octets c.put_users-p.ensures c.put_small-in-65.ensures

pub put_charge-requires : goal.put_charge-requires
put_charge-requires c =
    let f = form_charge c.args.parts.now c.requires.valid (λ z. omega arith) (λ z. omega arith) (λ z. omega arith) (λ z. omega arith) (λ z. omega arith) in
    let r = form_room f c.requires.room in
    record { value = r.0; few = omega (arith, ap length f.octets, c.requires.few); room = r.1 }

pub returns-in_default : goal.returns-in_default
returns-in_default c = form_wrote (form_charge c.args.parts.now c.requires.valid (λ z. omega arith) (λ z. omega arith) (λ z. omega arith) (λ z. omega arith) (λ z. omega arith)) c.put_charge.ensures
