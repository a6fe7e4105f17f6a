use Rattle.prelude.proofs.Prelude.{ap, sym, length}
use Rattle.trunk_write_frames.proofs.Dispatch.{form_size}
use Rattle.trunk_write_frames.proofs.Sizes.{address_none, address_some}
use Rattle.trunk_write_frames.proofs.address_size.Goals as goal

pub returns-then-a-eq-NONE-clause-by_index : goal.returns-then-a-eq-NONE-clause-by_index
returns-then-a-eq-NONE-clause-by_index c tag = sym (ap length (address_none c.association_of-a.ensures c.if-a-eq-NONE.true tag))

pub address_size-requires : goal.address_size-requires
address_size-requires c = (address_some c.association_of-a.ensures c.requires c.if-a-eq-NONE.false 0xa1).asked

pub returns-clause-by_index : goal.returns-clause-by_index
returns-clause-by_index c tag = form_size (address_some c.association_of-a.ensures c.requires c.if-a-eq-NONE.false tag) (c.address_size.ensures.by_index tag)
