use Rattle.prelude.proofs.Prelude.{◌∙◌, arith}
use Rattle.coding.proofs.Writing.{width_range}
use Rattle.trunk_write_frames.proofs.Sizes.{error_length}
use Rattle.trunk_write_frames.proofs.error_size.Goals as goal

pub overflow_add-result-2 : goal.overflow_add-result-2
overflow_add-result-2 c = omega (arith, width_range c.from-e.result)

pub overflow_add-result-3 : goal.overflow_add-result-3
overflow_add-result-3 c = omega (arith, width_range c.from-e.result)

pub returns-clause-value : goal.returns-clause-value
returns-clause-value c =
    error_length _ c.id_of.ensures _ (c.from-e.ensures ∙ c.error_of.ensures) c.id_width.ensures.value c.width_of.ensures (c.extension_size.ensures.by_index 0x30)

pub returns-clause-few : goal.returns-clause-few
returns-clause-few c = omega (arith, width_range c.from-e.result)
