-- No event passed is the one looked for.
use Rattle.plain_rules.specs.inner.Deciding.{sought}
use Rattle.plain_scans.specs.inner.Scan.{Here}
use Rattle.plain_scans.proofs.first_before.Given as goal

abbrev pub invariant-loop-i : goal.invariant-loop-i
invariant-loop-i l = Here (sought l.finals l.service) l.rows l.octets l.k l.i l.at l.phase
