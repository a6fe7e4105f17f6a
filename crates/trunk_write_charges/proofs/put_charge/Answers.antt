use Rattle.coding.proofs.Writing.{room_as, room_head}
use Rattle.write_elements.proofs.Parts.{room_2, wrote_two}
use Rattle.trunk_write_charges.proofs.Charges.{final_figured, final_association, final_octets, interim_figured, interim_octets}
use Rattle.trunk_write_charges.proofs.put_charge.Goals as goal

pub put_figure-p-requires : goal.put_figure-p-requires
put_figure-p-requires c =
    let is = c.figure_of-f.ensures in
    (final_figured _ _ is c.requires.value c.if-form-eq-FINAL.true, room_head _ (room_as c.requires.room (final_octets _ _ is c.if-form-eq-FINAL.true)))

pub put_association-requires : goal.put_association-requires
put_association-requires c =
    let is = c.figure_of-f.ensures in
    (final_association _ _ is c.requires.value c.if-form-eq-FINAL.true, room_2 (final_octets _ _ is c.if-form-eq-FINAL.true) c.requires.room c.put_figure-p.ensures)

pub returns-then-form-eq-FINAL : goal.returns-then-form-eq-FINAL
returns-then-form-eq-FINAL c = wrote_two (final_octets _ _ c.figure_of-f.ensures c.if-form-eq-FINAL.true) c.put_figure-p.ensures c.put_association.ensures

pub put_figure-requires : goal.put_figure-requires
put_figure-requires c =
    let is = c.figure_of-f.ensures in (
      interim_figured _ _ is c.requires.value c.if-form-eq-FINAL.false c.if-form-eq-INTERIM.true,
      room_as c.requires.room (interim_octets _ _ is c.if-form-eq-FINAL.false c.if-form-eq-INTERIM.true),
    )
