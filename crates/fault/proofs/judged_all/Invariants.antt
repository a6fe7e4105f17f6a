-- The state is that of the first i events.
use Rattle.std.proofs.Common.{◌≡◌}
use Rattle.account.specs.History.{judged}
use Rattle.events.specs.inner.Prefix.{place_at, before}
use Rattle.fault.specs.inner.Running.{progress_by}
use Rattle.fault.proofs.judged_all.Given as goal

abbrev pub invariant-loop-i : goal.invariant-loop-i
invariant-loop-i l = (l.at ≡ place_at l.rows l.i) × (l.state ≡ progress_by (judged (before l.rows l.octets l.i)))
