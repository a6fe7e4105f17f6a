use Rattle.prelude.proofs.Prelude.{rules}
use Rattle.trunk_write_charges.proofs.Figures.{priced_1, priced_all}
use Rattle.trunk_write_charges.proofs.put_priced.Goals as goal

pub put_leads-p-requires : goal.put_leads-p-requires
put_leads-p-requires c = search (rules, priced_1)

pub returns : goal.returns
returns c = search (rules, priced_all)
