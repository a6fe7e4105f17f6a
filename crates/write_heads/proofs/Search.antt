-- What a search in these functions' proofs may use: for tests and sizes, for octets, and for a whole front.
use Rattle.prelude.proofs.Prelude.{or-false, append-nil}
use Rattle.coding.proofs.{Tests.tests, Writing.{room, room_third, room_when, room_as}}
use Rattle.read_heads.proofs.Codes.{operation_below, operation_above, operation_known}
use Rattle.write_heads.proofs.{Fine.{request_is, invoke_is, result_is, error_is, reject_is, told_no, told_yes}, Sizes.{sizing, small_operation, small_error, small_detail}}

pub ruleset heads = (tests, or-false, operation_below, operation_above, operation_known, request_is, invoke_is, result_is, error_is, reject_is, told_no, told_yes, sizing, room_as)

pub ruleset stores = (room, room_third, room_when, tests, append-nil)

pub ruleset fronts = (tests, room_as, small_operation, small_error, small_detail)
