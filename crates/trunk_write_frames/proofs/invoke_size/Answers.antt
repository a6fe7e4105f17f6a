use Rattle.trunk_write_frames.proofs.Frames.{invoke_body, invoke_length}
use Rattle.trunk_write_frames.proofs.invoke_size.Goals as goal

pub body_size-requires : goal.body_size-requires
body_size-requires c = invoke_body c.args.parts.now c.requires

pub returns-clause-value : goal.returns-clause-value
returns-clause-value c = invoke_length c.args.parts.now c.requires c.id_of.ensures c.id_width.ensures.value c.body_size.ensures.value
