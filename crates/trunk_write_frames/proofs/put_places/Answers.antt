use Rattle.prelude.proofs.Prelude.{refl, sym, ap, ◌∙◌, arith}
use Rattle.coding.specs.Codec.{all, write_all}
use Rattle.coding.proofs.Writing.{room_as}
use Rattle.write_elements.proofs.Parts.{wrote_is}
use Rattle.write_rates.proofs.Tables.{putting_none, putting_room, putting_more, putting_done, left_valid}
use Rattle.trunk_write_frames.specs.inner.Octets.{mode}
use Rattle.trunk_write_frames.proofs.Forms.{mode_low, mode_write, placed}
use Rattle.trunk_write_frames.proofs.put_places.Goals as goal

pub loop-x-init : goal.loop-x-init
loop-x-init c = putting_none (ap (all mode.valid) (placed c.args.places.now) ∙ c.requires.valid)

pub put_small-p-requires : goal.put_small-p-requires
put_small-p-requires c =
    let r = room_as c.requires.room (sym (ap (write_all mode.write) (placed c.args.places.now))) in (
      mode_low _ (left_valid c.loop-x.invariant.left (omega arith) refl),
      room_as (putting_room c.loop-x.invariant r (omega arith) refl) (mode_write _),
    )

pub loop-x-preserved : goal.loop-x-preserved
loop-x-preserved c = putting_more c.loop-x.invariant (omega arith) refl (wrote_is (mode_write _) c.put_small-p.ensures)

pub returns : goal.returns
returns c = wrote_is (sym (ap (write_all mode.write) (placed c.args.places.now))) (putting_done c.loop-x.invariant (λ z. omega arith))
