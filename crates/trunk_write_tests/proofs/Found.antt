-- What the check rewrites by: the tests that the code makes, and those of a type.
use Rattle.coding.proofs.Tests.{tests}
use Rattle.write_tests.proofs.Tests.{association_0, association_1, number_by_lem}
use Rattle.write_tests.proofs.Truth.{answered, told}
use Rattle.trunk_write_tests.proofs.Tests.{zero_eqb, told_so, told_not, none_by, some_by}
use Rattle.trunk_write_tests.proofs.Blank.{not_extended, no_people}

pub ruleset found = (tests, zero_eqb, told_so, told_not, none_by, some_by, association_0, association_1, number_by_lem, answered, told, not_extended, no_people)
