-- What a search in these functions' proofs may use.
use Rattle.coding.proofs.Tests.{tests}
use Rattle.write_tests.proofs.Truth.{told, zero_first}
use Rattle.write_tests.proofs.Tests.{zeros_lent, zeros_past, no_money_as, scaled_is, money_is, currency_is, digits_is, identified_is, number_is, association_0, association_1, number_by_lem, number_either, private_none}

pub ruleset parts = (tests, told, zero_first, zeros_lent, zeros_past, no_money_as, scaled_is, money_is, currency_is, digits_is, identified_is, number_is, association_0, association_1, number_by_lem, number_either, private_none)
