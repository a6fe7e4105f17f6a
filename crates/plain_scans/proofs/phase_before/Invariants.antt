-- The phase is that after the events passed.
use Rattle.std.proofs.Common.{ℕ, List, ◌≡◌}
use Rattle.account.specs.History.{phase, judged}
use Rattle.events.specs.inner.Prefix.{before}
use Rattle.plain_scans.proofs.phase_before.Given as goal

abbrev pub invariant-loop-i : goal.invariant-loop-i
invariant-loop-i l = (o : List ℕ) → l.phase ≡ phase (judged (before l.rows o l.i))
