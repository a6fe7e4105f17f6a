use Rattle.prelude.proofs.Prelude.{ap, sym, ◌∙◌, arith}
use Rattle.coding.specs.Codec.{all, write_all}
use Rattle.coding.proofs.Writing.{room_as}
use Rattle.write_elements.proofs.Parts.{room_2, wrote_two, wrote_is}
use Rattle.trunk_write_frames.specs.inner.Octets.{mode}
use Rattle.trunk_write_frames.proofs.Dispatch.{room_1}
use Rattle.trunk_write_frames.proofs.Forms.{places_slice}
use Rattle.trunk_write_frames.proofs.Sizes.{modes_split, modes_fine_lem}
use Rattle.trunk_write_frames.proofs.put_modes.Goals as goal

pub put_lead-p-requires : goal.put_lead-p-requires
put_lead-p-requires c = (omega (arith, c.from-n.ensures, c.requires.front_bound.0), room_1 _ (modes_split _ c.from-n.ensures) c.requires.room)

pub put_places-requires : goal.put_places-requires
put_places-requires c =
    let s = places_slice c.args.front.now c.from-n.result (omega arith) (omega (arith, c.from-n.ensures, c.requires.front_bound.0)) in
    record {
      valid = sym (ap (all mode.valid) s) ∙ modes_fine_lem _ c.from-n.ensures c.requires.front_bound.1;
      room = room_as (room_2 (modes_split _ c.from-n.ensures) c.requires.room c.put_lead-p.ensures) (ap (write_all mode.write) s);
    }

pub returns : goal.returns
returns c =
    let s = places_slice c.args.front.now c.from-n.result (omega arith) (omega (arith, c.from-n.ensures, c.requires.front_bound.0)) in
    wrote_two (modes_split _ c.from-n.ensures) c.put_lead-p.ensures (wrote_is (ap (write_all mode.write) s) c.put_places.ensures)
