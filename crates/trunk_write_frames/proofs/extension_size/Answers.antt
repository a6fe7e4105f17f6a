use Rattle.prelude.proofs.Prelude.{ap, sym, length}
use Rattle.trunk_write_frames.proofs.Extensions.{tagged_none, tagged_size}
use Rattle.trunk_types.specs.Stored.{extension_in}
use Rattle.trunk_write_frames.proofs.extension_size.Goals as goal

pub returns-then-extension-eq-NOT-clause-by_index : goal.returns-then-extension-eq-NOT-clause-by_index
returns-then-extension-eq-NOT-clause-by_index c tag = sym (ap length (tagged_none (extension_in c.args.extension.now) c.if-extension-eq-NOT.true tag))

pub returns-clause-by_index : goal.returns-clause-by_index
returns-clause-by_index c = tagged_size (extension_in c.args.extension.now) c.requires c.if-extension-eq-NOT.false c.from-n.ensures c.sized.ensures.by_index
