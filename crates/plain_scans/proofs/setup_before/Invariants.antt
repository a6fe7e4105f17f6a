-- No event passed is an accepted Setup.
use Rattle.std.proofs.Common.{ℕ, List, ◌≡◌}
use Rattle.account.specs.History.{phase, judged}
use Rattle.events.specs.inner.Prefix.{before}
use Rattle.plain_scans.proofs.setup_before.Given as goal

abbrev pub invariant-loop-i : goal.invariant-loop-i
invariant-loop-i l = (o : List ℕ) → phase (judged (before l.rows o l.i)) ≡ 0
