-- What the check rewrites by: the octets of each case, and how many they are.
use Rattle.coding.proofs.Small.{null_length}
use Rattle.write_association.proofs.Sizes.{none_length, id_size, party_valid, party_length, association_none, association_id, party_octets}
use Rattle.write_elements.proofs.Parts.{wrote_nothing}
use Rattle.trunk_write_charges.proofs.Figures.{priced_length, priced_1, priced_2, priced_3, priced_all, none_octets, free_octets, money_octets_lem, money_length}
use Rattle.trunk_write_charges.proofs.Charges as charges

-- an association
pub ruleset associations = (none_length, id_size, party_valid, party_length, association_none, association_id, party_octets, wrote_nothing)

-- a figure
pub ruleset figures = (none_octets, free_octets, money_octets_lem, null_length, money_length, priced_length, priced_1, priced_2, priced_3, priced_all)

-- a charge
pub ruleset charged = (charges.final_figured, charges.final_association, charges.final_octets, charges.final_length, charges.interim_figured, charges.interim_octets, charges.none_octets, charges.tariff_fine, charges.tariff_octets)
