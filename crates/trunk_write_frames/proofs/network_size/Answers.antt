use Rattle.trunk_write_frames.proofs.Sizes.{network_length}
use Rattle.trunk_write_frames.proofs.network_size.Goals as goal

pub returns-clause-value : goal.returns-clause-value
returns-clause-value c = network_length c.requires c.address_size.ensures.by_index c.address_size-2.ensures.by_index
