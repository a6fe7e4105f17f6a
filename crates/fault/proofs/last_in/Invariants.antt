-- The state is that of the first i events.
use Rattle.std.proofs.Common.{◌≡◌}
use Rattle.account.specs.History.{judged}
use Rattle.events.specs.inner.Prefix.{place_at, before}
use Rattle.fault.specs.inner.Going.{state_by}
use Rattle.fault.proofs.last_in.Given as goal

abbrev pub invariant-loop-i : goal.invariant-loop-i
invariant-loop-i l = (l.at ≡ place_at l.rows l.i) × (l.state ≡ state_by l.c (judged (before l.rows l.octets l.i)))
