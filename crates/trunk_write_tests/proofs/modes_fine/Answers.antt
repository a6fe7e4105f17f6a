use Rattle.prelude.proofs.Prelude.{arith}
use Rattle.coding.proofs.Tests.{tests}
use Rattle.write_tests.proofs.Truth.{told}
use Rattle.trunk_write_tests.proofs.Tests.{modes_none, some_modes_lem}
use Rattle.trunk_write_tests.proofs.modes_fine.Goals as goal

pub returns-then-n-eq0 : goal.returns-then-n-eq0
returns-then-n-eq0 c = search (tests, modes_none c.args.front.now (omega arith) c.from-n.ensures)

pub returns-else-n-eq0 : goal.returns-else-n-eq0
returns-else-n-eq0 c = search (tests, modes_none c.args.front.now (omega arith) c.from-n.ensures)

pub returns-then-below : goal.returns-then-below
returns-then-below c = search (tests, some_modes_lem c.args.front.now (omega arith) c.from-n.ensures, told)

pub returns-else-below : goal.returns-else-below
returns-else-below c = search (tests, some_modes_lem c.args.front.now (omega arith) c.from-n.ensures, told)

pub returns-else-n-le7 : goal.returns-else-n-le7
returns-else-n-le7 c = search (tests, some_modes_lem c.args.front.now (omega arith) c.from-n.ensures)
