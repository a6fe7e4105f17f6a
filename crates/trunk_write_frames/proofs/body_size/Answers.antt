use Rattle.prelude.proofs.Prelude.{ap, sym, ◌∙◌, length}
use Rattle.coding.proofs.Small.{null_length}
use Rattle.trunk_write_frames.proofs.Dispatch.{form_size}
use Rattle.trunk_write_frames.proofs.Bodies.{asked_plain, form_asked, other_valid, other_length}
use Rattle.trunk_write_frames.proofs.body_size.Goals as goal

pub returns-then-parts-eq-NOT-clause-value : goal.returns-then-parts-eq-NOT-clause-value
returns-then-parts-eq-NOT-clause-value c = sym (ap length (asked_plain _ c.args.parts.now c.if-form-eq-GET_FINAL_CHARGE.true c.if-parts-eq-NOT.true) ∙ null_length 0x05)

pub extension_size-requires : goal.extension_size-requires
extension_size-requires c = (form_asked _ c.args.parts.now c.requires c.if-form-eq-GET_FINAL_CHARGE.true c.if-parts-eq-NOT.false).asked

pub returns-then-form-eq-GET_FINAL_CHARGE-clause-value : goal.returns-then-form-eq-GET_FINAL_CHARGE-clause-value
returns-then-form-eq-GET_FINAL_CHARGE-clause-value c = form_size (form_asked _ c.args.parts.now c.requires c.if-form-eq-GET_FINAL_CHARGE.true c.if-parts-eq-NOT.false) (c.extension_size.ensures.by_index 0xa1)

pub inner_size-requires : goal.inner_size-requires
inner_size-requires c = (other_valid _ c.args.parts.now c.requires c.if-form-eq-GET_FINAL_CHARGE.false).0

pub extension_size-requires-2 : goal.extension_size-requires-2
extension_size-requires-2 c = (other_valid _ c.args.parts.now c.requires c.if-form-eq-GET_FINAL_CHARGE.false).1.asked

pub returns-clause-value : goal.returns-clause-value
returns-clause-value c =
    c.sized.ensures.by_index 0x30
    ∙ other_length _ c.args.parts.now c.requires c.if-form-eq-GET_FINAL_CHARGE.false c.inner_size.ensures.value c.extension_size-2.ensures.by_index
