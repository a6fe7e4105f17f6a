-- The state is that of the first i events.
use Rattle.std.proofs.Common.{◌≡◌}
use Rattle.account.specs.History.{judged}
use Rattle.events.specs.inner.Prefix.{place_at, before}
use Rattle.why.specs.inner.Seeing.{state_by}
use Rattle.why.proofs.explained.Given as goal

abbrev pub invariant-loop-i : goal.invariant-loop-i
invariant-loop-i l = (l.at ≡ place_at l.rows l.i) × (l.state ≡ state_by (judged (before l.rows l.octets l.i)))
