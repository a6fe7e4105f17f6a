-- Elements fill the octets from here where they do from the start. The measure is what is left.
use Rattle.std.proofs.Common.{◌≤◌, ◌-◌, ◌≡◌, length}
use Rattle.trace_framing.specs.Framing.{fit_from}
use Rattle.trace_framing.proofs.elements_fit.Given as goal

abbrev pub invariant-loop-at : goal.invariant-loop-at
invariant-loop-at l = (l.at ≤ length l.s) × (fit_from l.s l.at ≡ fit_from l.s l.start)

abbrev pub decreases-loop-at : goal.decreases-loop-at
decreases-loop-at l = length l.s - l.at
