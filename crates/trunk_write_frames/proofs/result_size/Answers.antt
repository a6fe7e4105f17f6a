use Rattle.trunk_write_frames.proofs.Frames.{result_body, result_length}
use Rattle.trunk_write_frames.proofs.result_size.Goals as goal

pub body_size-n-requires : goal.body_size-n-requires
body_size-n-requires c = result_body c.args.parts.now c.requires c.result_form-form.ensures

pub returns-clause-value : goal.returns-clause-value
returns-clause-value c =
    result_length c.args.parts.now c.requires c.result_form-form.ensures c.body_size-n.ensures.value c.id_of.ensures c.id_width.ensures.value (c.sized.ensures.by_index 0x30)
