use Rattle.prelude.proofs.Prelude.{arith}
use Rattle.trunk_write_frames.proofs.Dispatch.{form_size}
use Rattle.trunk_write_frames.proofs.Frames.{holds_1, holds_2, holds_3, holds_4, holds_10}
use Rattle.trunk_write_frames.proofs.contents_size.Goals as goal

pub invoke_size-requires : goal.invoke_size-requires
invoke_size-requires c = (holds_1 c.args.parts.now c.requires c.in-1.is).asked

pub result_size-requires : goal.result_size-requires
result_size-requires c = (holds_2 c.args.parts.now c.requires c.in-2.is).asked

pub error_size-requires : goal.error_size-requires
error_size-requires c = (holds_3 c.args.parts.now c.requires c.in-3.is).asked

pub reject_size-requires : goal.reject_size-requires
reject_size-requires c = (holds_4 c.args.parts.now c.requires c.in-4.is).asked

pub network_size-requires : goal.network_size-requires
network_size-requires c = (holds_10 c.args.parts.now c.requires (λ z. omega arith) (λ z. omega arith) (λ z. omega arith) (λ z. omega arith)).asked

pub returns-in-1-clause-value : goal.returns-in-1-clause-value
returns-in-1-clause-value c = form_size (holds_1 c.args.parts.now c.requires c.in-1.is) c.invoke_size.ensures.value

pub returns-in-2-clause-value : goal.returns-in-2-clause-value
returns-in-2-clause-value c = form_size (holds_2 c.args.parts.now c.requires c.in-2.is) c.result_size.ensures.value

pub returns-in-3-clause-value : goal.returns-in-3-clause-value
returns-in-3-clause-value c = form_size (holds_3 c.args.parts.now c.requires c.in-3.is) c.error_size.ensures.value

pub returns-in-4-clause-value : goal.returns-in-4-clause-value
returns-in-4-clause-value c = form_size (holds_4 c.args.parts.now c.requires c.in-4.is) c.reject_size.ensures.value

pub returns-in_default-clause-value : goal.returns-in_default-clause-value
returns-in_default-clause-value c = form_size (holds_10 c.args.parts.now c.requires (λ z. omega arith) (λ z. omega arith) (λ z. omega arith) (λ z. omega arith)) c.network_size.ensures.value
