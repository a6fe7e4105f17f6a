-- The octets of event i begin here.
use Rattle.std.proofs.Common.{◌≡◌}
use Rattle.events.specs.inner.Prefix.{place_at}
use Rattle.plain_scans.proofs.place_of.Given as goal

abbrev pub invariant-loop-i : goal.invariant-loop-i
invariant-loop-i l = l.at ≡ place_at l.rows l.i
