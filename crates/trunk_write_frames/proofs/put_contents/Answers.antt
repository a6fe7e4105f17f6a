use Rattle.prelude.proofs.Prelude.{arith}
use Rattle.trunk_write_frames.proofs.Dispatch.{form_room, form_fits, form_wrote}
use Rattle.trunk_write_frames.proofs.Frames.{holds_1, holds_2, holds_3, holds_4, holds_10}
use Rattle.trunk_write_frames.proofs.put_contents.Goals as goal

pub put_invoke-requires : goal.put_invoke-requires
put_invoke-requires c = form_fits (holds_1 c.args.parts.now c.requires.rows_value c.in-1.is) c.requires.rows_len_bound c.requires.room

pub put_result-requires : goal.put_result-requires
put_result-requires c = form_fits (holds_2 c.args.parts.now c.requires.rows_value c.in-2.is) c.requires.rows_len_bound c.requires.room

pub put_error-requires : goal.put_error-requires
put_error-requires c = let r = form_room (holds_3 c.args.parts.now c.requires.rows_value c.in-3.is) c.requires.room in record { counted = r.0; room = r.1 }

pub put_reject-requires : goal.put_reject-requires
put_reject-requires c = form_room (holds_4 c.args.parts.now c.requires.rows_value c.in-4.is) c.requires.room

pub put_network-requires : goal.put_network-requires
put_network-requires c = let r = form_room (holds_10 c.args.parts.now c.requires.rows_value (λ z. omega arith) (λ z. omega arith) (λ z. omega arith) (λ z. omega arith)) c.requires.room in record { network_fine = r.0; room = r.1 }

pub returns-in-1 : goal.returns-in-1
returns-in-1 c = form_wrote (holds_1 c.args.parts.now c.requires.rows_value c.in-1.is) c.put_invoke.ensures

pub returns-in-2 : goal.returns-in-2
returns-in-2 c = form_wrote (holds_2 c.args.parts.now c.requires.rows_value c.in-2.is) c.put_result.ensures

pub returns-in-3 : goal.returns-in-3
returns-in-3 c = form_wrote (holds_3 c.args.parts.now c.requires.rows_value c.in-3.is) c.put_error.ensures

pub returns-in-4 : goal.returns-in-4
returns-in-4 c = form_wrote (holds_4 c.args.parts.now c.requires.rows_value c.in-4.is) c.put_reject.ensures

pub returns-in_default : goal.returns-in_default
returns-in_default c = form_wrote (holds_10 c.args.parts.now c.requires.rows_value (λ z. omega arith) (λ z. omega arith) (λ z. omega arith) (λ z. omega arith)) c.put_network.ensures
