-- The events of the messages that are left are still to be laid.
use Rattle.std.proofs.Common.{◌≡◌, true, false}
use Rattle.trace_framing.specs.Framing.{Passing, messages_left, messages_of}
use Rattle.trace_messages.specs.Trace.{all_framed, trace_from}
use Rattle.trace.specs.inner.Putting.{Progress}
use Rattle.trace.proofs.put_trace.Given as goal

abbrev pub invariant-loop-i : goal.invariant-loop-i
invariant-loop-i l =
    Passing l.pairs l.octets l.i l.at × (all_framed (messages_left l.pairs l.octets l.i l.at) ≡ true)
    × Progress l.fn.rows l.rows l.fn.out l.out l.fn.p l.q (trace_from l.call l.cleared (messages_left l.pairs l.octets l.i l.at)) (trace_from l.call false (messages_of l.pairs l.octets))
