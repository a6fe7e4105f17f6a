-- What a search in these functions' proofs may use.
use Rattle.prelude.proofs.Prelude.{ne_eqb, eq-eqb}
use Rattle.write_elements.proofs.Parts.{wrote_is, wrote_nothing}
use Rattle.coding.proofs.Writing.{room_as}
use Rattle.write_association.proofs.Sizes.{association_none, association_id, none_length, id_size, told, number_count, number_fits, number_plan, planned_octets, planned_1, planned_2, planned_3, planned_length, plain_octets, plain_length, address_length, address_1, party_valid, party_octets, party_length}

pub ruleset parts = (
  ne_eqb,
  eq-eqb,
  wrote_is,
  wrote_nothing,
  room_as,
  association_none,
  association_id,
  none_length,
  id_size,
  told,
  number_count,
  number_fits,
  number_plan,
  planned_1,
  planned_2,
  planned_3,
  planned_length,
  plain_octets,
  plain_length,
  address_length,
  address_1,
  party_valid,
  party_octets,
  party_length,
)
