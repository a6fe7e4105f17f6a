use Rattle.prelude.proofs.Prelude.{◌∙◌}
use Rattle.write_elements.proofs.Parts.{room_3, wrote_three}
use Rattle.trunk_write_frames.proofs.Dispatch.{room_1, room_mid}
use Rattle.trunk_write_frames.proofs.Sizes.{error_split}
use Rattle.trunk_write_frames.proofs.put_error.Goals as goal

pub put_id-p-requires : goal.put_id-p-requires
put_id-p-requires c = room_1 _ (error_split _ c.id_of.ensures _ (c.from-e.ensures ∙ c.error_of.ensures)) c.requires.room

pub put_number-q-requires : goal.put_number-q-requires
put_number-q-requires c = room_mid _ (error_split _ c.id_of.ensures _ (c.from-e.ensures ∙ c.error_of.ensures)) c.requires.room c.put_id-p.ensures

pub put_extension-requires-clause-room : goal.put_extension-requires-clause-room
put_extension-requires-clause-room c = room_3 (error_split _ c.id_of.ensures _ (c.from-e.ensures ∙ c.error_of.ensures)) c.requires.room c.put_id-p.ensures c.put_number-q.ensures

pub returns : goal.returns
returns c = wrote_three (error_split _ c.id_of.ensures _ (c.from-e.ensures ∙ c.error_of.ensures)) c.put_id-p.ensures c.put_number-q.ensures c.put_extension.ensures
