use Rattle.prelude.proofs.Prelude.{arith}
use Rattle.write_tests.proofs.Truth.{told}
use Rattle.trunk_write_tests.proofs.Masks.{by_masks}
use Rattle.trunk_write_tests.proofs.charge_fine.Goals as goal

pub returns-then-fields_fine : goal.returns-then-fields_fine
returns-then-fields_fine c = by_masks _ _ _ (omega arith) c.is_associated-associated.ensures (search told)

pub returns-else-fields_fine : goal.returns-else-fields_fine
returns-else-fields_fine c = by_masks _ _ _ (omega arith) c.is_associated-associated.ensures (search told)

pub returns-else-other_fine : goal.returns-else-other_fine
returns-else-other_fine c = by_masks _ _ _ (omega arith) c.is_associated-associated.ensures (search told)
