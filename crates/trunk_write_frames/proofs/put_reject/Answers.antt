use Rattle.coding.proofs.Writing.{wrote_both}
use Rattle.trunk_write_frames.proofs.put_reject.Goals as goal

pub returns : goal.returns
returns c = wrote_both c.put_caller-p.ensures c.put_small.ensures
