use Rattle.prelude.proofs.Prelude.{lt-ltb, le-ltb}
use Rattle.coding.proofs.Writing.{wrote_both}
use Rattle.lines_rules.specs.Text.{refused_text}
use Rattle.lines_rules.proofs.put_refused.Goals as goal

pub returns-then-n-lt10-clause-wrote : goal.returns-then-n-lt10-clause-wrote
unfolding refused_text
returns-then-n-lt10-clause-wrote c = rw (lt-ltb _ 10 c.if-n-lt10.true) (wrote_both c.put_octets-at.ensures c.put_octets.ensures)

pub returns-clause-wrote : goal.returns-clause-wrote
unfolding refused_text
returns-clause-wrote c = rw (le-ltb _ 10 c.if-n-lt10.false) (wrote_both c.put_octets-at.ensures c.put_octets-2.ensures)
