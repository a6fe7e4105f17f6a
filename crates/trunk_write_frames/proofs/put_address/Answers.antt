use Rattle.write_elements.proofs.Parts.{wrote_nothing}
use Rattle.trunk_write_frames.proofs.Dispatch.{form_room, form_wrote}
use Rattle.trunk_write_frames.proofs.Sizes.{address_none, address_some}
use Rattle.trunk_write_frames.proofs.put_address.Goals as goal

pub returns-then-a-eq-NONE : goal.returns-then-a-eq-NONE
returns-then-a-eq-NONE c = wrote_nothing (address_none c.association_of-a.ensures c.if-a-eq-NONE.true _)

pub put_address-requires : goal.put_address-requires
put_address-requires c = form_room (address_some c.association_of-a.ensures c.requires.part_value c.if-a-eq-NONE.false _) c.requires.room

pub returns : goal.returns
returns c = form_wrote (address_some c.association_of-a.ensures c.requires.part_value c.if-a-eq-NONE.false _) c.put_address.ensures
