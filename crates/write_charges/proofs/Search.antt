-- What a search in these functions' proofs may use: for tests of lists, and for their sizes and octets.
use Rattle.coding.proofs.Tests.{tests}
use Rattle.write_tests.proofs.Truth.{told}
use Rattle.write_rates.proofs.Tables.{passing_none, passing_more, passing_stop, passing_done, sizing_none, left_valid, putting_none, putting_more}
use Rattle.write_charges.proofs.Listed.{units_is}

pub ruleset passing = (tests, told, passing_none, passing_more, passing_stop, passing_done, units_is)

pub ruleset octets = (sizing_none, left_valid, putting_none, putting_more)
