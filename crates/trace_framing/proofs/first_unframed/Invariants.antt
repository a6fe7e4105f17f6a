-- The messages passed are framed.
use Rattle.std.proofs.Common.{◌+◌, ◌≡◌}
use Rattle.trace_framing.specs.Framing.{Passing, first_unframed, messages_left, messages_of}
use Rattle.trace_framing.proofs.first_unframed.Given as goal

abbrev pub invariant-loop-i : goal.invariant-loop-i
invariant-loop-i l = Passing l.pairs l.octets l.i l.at × (first_unframed (l.i + 1) (messages_left l.pairs l.octets l.i l.at) ≡ first_unframed 1 (messages_of l.pairs l.octets))
