-- What a search in these functions' proofs may use: for tests, and for sizes and octets.
use Rattle.coding.proofs.Tests.{tests}
use Rattle.write_tests.proofs.Truth.{told}
use Rattle.write_rates.proofs.Tables.{passing_none, passing_more, passing_stop, passing_done, sizing_none, left_valid, putting_none, putting_more}
use Rattle.write_rates.proofs.{Places.{row_rate, rates_is}, Listed.{rates_valid, rates_length, put_rates_1, put_rates_2}}

pub ruleset passing = (tests, told, passing_none, passing_more, passing_stop, passing_done, rates_is)

pub ruleset octets = (sizing_none, left_valid, putting_none, putting_more, row_rate, put_rates_1, put_rates_2)
