use Rattle.coding.proofs.Writing.{room}
use Rattle.write_heads.proofs.put_reject.Goals as goal

pub returns : goal.returns
returns c = search room
