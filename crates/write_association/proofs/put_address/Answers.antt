use Rattle.std.proofs.Common.{arith}
use Rattle.write_elements.proofs.Parts.{room_2, wrote_two}
use Rattle.write_association.proofs.Sizes.{address_octets, address_1}
use Rattle.write_association.proofs.put_address.Goals as goal

pub put_lead-p-requires : goal.put_lead-p-requires
put_lead-p-requires c = (omega (arith, c.number_size.ensures), search address_1)

pub put_party-requires : goal.put_party-requires
put_party-requires c = search (room_2, address_octets)

pub returns : goal.returns
returns c = search (wrote_two, address_octets)
