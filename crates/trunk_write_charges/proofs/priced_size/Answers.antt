use Rattle.trunk_write_charges.proofs.Figures.{priced_length}
use Rattle.trunk_write_charges.proofs.priced_size.Goals as goal

pub returns-clause-value : goal.returns-clause-value
returns-clause-value c = priced_length _ _ _ _ c.money_size-n.ensures.value c.sized.ensures.by_index c.billing_size.ensures.by_index c.requires.1 _ c.sized-2.ensures.by_index
