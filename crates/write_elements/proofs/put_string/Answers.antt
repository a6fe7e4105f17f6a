use Rattle.std.proofs.Common.{rules}
use Rattle.write_elements.proofs.Inside.{string_room, string_wrote}
use Rattle.write_elements.proofs.put_string.Goals as goal

pub put_lead-p-requires : goal.put_lead-p-requires
put_lead-p-requires c = (search rules, search string_room)

pub returns : goal.returns
returns c = search string_wrote
