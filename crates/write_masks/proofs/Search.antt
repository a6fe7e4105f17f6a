-- What a search in these functions' proofs may use.
use Rattle.coding.proofs.Tests.{tests}
use Rattle.write_tests.proofs.Truth.{told, zero_first}
use Rattle.write_masks.proofs.Masks.{by_masks, clear_more, clear_whole}

pub ruleset masks = (tests, told, zero_first, by_masks, clear_more, clear_whole)
