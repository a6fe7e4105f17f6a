use Rattle.write_elements.proofs.Inside.{number_room, number_wrote, width_small}
use Rattle.write_elements.proofs.put_number.Goals as goal

pub put_lead-p-requires : goal.put_lead-p-requires
put_lead-p-requires c = (search width_small, search number_room)

pub returns : goal.returns
returns c = search number_wrote
