use Rattle.coding.specs.Reader.{part}
use Rattle.write_tests.proofs.Truth.{answered}
use Rattle.trunk_write_tests.specs.inner.Fine.{front_fits}
use Rattle.trunk_write_tests.proofs.Tests.{as_front}
use Rattle.trunk_write_tests.proofs.Blank.{no_people}
use Rattle.trunk_write_tests.proofs.front_fine.Goals as goal

pub returns-then-not-detail_fine : goal.returns-then-not-detail_fine
unfolding front_fits
returns-then-not-detail_fine c = search answered

pub returns-then-not-entity_fine : goal.returns-then-not-entity_fine
unfolding front_fits
returns-then-not-entity_fine c = search answered

pub returns-then-all_are : goal.returns-then-all_are
unfolding front_fits part
returns-then-all_are c = search (answered, no_people)

pub returns-then-not-modes_fine : goal.returns-then-not-modes_fine
unfolding front_fits
returns-then-not-modes_fine c = search answered

pub returns : goal.returns
returns c = search (answered, as_front)
