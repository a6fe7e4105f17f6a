use Rattle.prelude.proofs.Prelude.{inl, inr, arith}
use Rattle.trunk_write_frames.proofs.Dispatch.{form_size}
use Rattle.trunk_write_frames.proofs.Forms.{form_detail, form_59, form_64, form_65, form_charge, size_detail, size_59, size_65}
use Rattle.trunk_write_frames.proofs.inner_size.Goals as goal

pub users_size-requires : goal.users_size-requires
users_size-requires c = (form_64 c.args.parts.now c.requires c.in-64.is).asked

pub users_size-requires-in-65 : goal.users_size-requires-in-65
users_size-requires-in-65 c = (form_65 c.args.parts.now c.requires c.in-65.is).asked.0

pub charge_size-requires : goal.charge_size-requires
charge_size-requires c = (form_charge c.args.parts.now c.requires (λ z. omega arith) (λ z. omega arith) (λ z. omega arith) (λ z. omega arith) (λ z. omega arith)).asked

pub returns-in-1-clause-value : goal.returns-in-1-clause-value
returns-in-1-clause-value c = size_detail (form_detail c.args.parts.now c.requires (inl c.in-1.is))

pub returns-in-2-clause-value : goal.returns-in-2-clause-value
returns-in-2-clause-value c = size_detail (form_detail c.args.parts.now c.requires (inr c.in-2.is))

pub returns-in-59-clause-value : goal.returns-in-59-clause-value
returns-in-59-clause-value c = size_59 _ (form_59 c.args.parts.now c.requires (omega arith) c.in-59.is) c.from.ensures

pub returns-in-59-clause-few : goal.returns-in-59-clause-few
returns-in-59-clause-few c = omega (arith, c.from.ensures, (form_59 c.args.parts.now c.requires (omega arith) c.in-59.is).asked.0)

pub returns-in-64-clause-value : goal.returns-in-64-clause-value
returns-in-64-clause-value c = form_size (form_64 c.args.parts.now c.requires c.in-64.is) c.users_size.ensures.value

pub returns-in-65-clause-value : goal.returns-in-65-clause-value
returns-in-65-clause-value c = size_65 c.args.parts.now c.requires c.in-65.is c.users_size-in-65.ensures.value

pub returns-in_default-clause-value : goal.returns-in_default-clause-value
returns-in_default-clause-value c = form_size (form_charge c.args.parts.now c.requires (λ z. omega arith) (λ z. omega arith) (λ z. omega arith) (λ z. omega arith) (λ z. omega arith)) c.charge_size.ensures.value
