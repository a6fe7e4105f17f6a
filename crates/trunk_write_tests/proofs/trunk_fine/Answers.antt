use Rattle.write_tests.proofs.Truth.{told}
use Rattle.trunk_write_tests.proofs.Tests.{as_trunk}
use Rattle.trunk_write_tests.proofs.trunk_fine.Goals as goal

pub returns-then-charge_fine : goal.returns-then-charge_fine
returns-then-charge_fine c = as_trunk _ _ _ _ c.lead_of-l.ensures c.form_of-form.ensures (search told)

pub returns-else-charge_fine : goal.returns-else-charge_fine
returns-else-charge_fine c = as_trunk _ _ _ _ c.lead_of-l.ensures c.form_of-form.ensures (search told)

pub returns-else-front_fine : goal.returns-else-front_fine
returns-else-front_fine c = as_trunk _ _ _ _ c.lead_of-l.ensures c.form_of-form.ensures (search told)

pub returns-else-lead_fine : goal.returns-else-lead_fine
returns-else-lead_fine c = as_trunk _ _ _ _ c.lead_of-l.ensures c.form_of-form.ensures (search told)
