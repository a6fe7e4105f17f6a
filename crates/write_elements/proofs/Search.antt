-- What a search in these functions' proofs may use.
use Rattle.coding.proofs.{Small.{id_low, id_high, id_two, small_number, element_short, element_long}, Writing.{lead_short, lead_long, wrote_2, wrote_3, wrote_4}}
use Rattle.write_elements.proofs.{Bits.width_zeros, Inside.{small_room, low_room, high_room, lead_begin, lead_inside, lead_inside_long, id_begin, id_next, id_inside, string_rest, number_rest, width_few, id_one_low, id_one_high, id_two_octets}}

pub ruleset stores = (
  id_low,
  id_high,
  id_two,
  small_number,
  element_short,
  element_long,
  lead_short,
  lead_long,
  wrote_2,
  wrote_3,
  wrote_4,
  small_room,
  low_room,
  high_room,
  lead_begin,
  lead_inside,
  lead_inside_long,
  id_begin,
  id_next,
  id_inside,
  string_rest,
  number_rest,
  width_few,
  width_zeros,
  id_one_low,
  id_one_high,
  id_two_octets,
)
