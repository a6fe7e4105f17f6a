-- At each place the components of the elements that are left are still to be laid.
use Rattle.prelude.proofs.Prelude.{◌<◌, ◌-◌, ◌+◌, refl, ap, arith, length, get_or}
use Rattle.trace_framing.{specs.Framing.Elements, proofs.Laws.end_past, proofs.Laws.end_near, proofs.Laws.elements_on}
use Rattle.trace_messages.{specs.Trace.components_left, specs.Trace.components_after, specs.Trace.component_events, proofs.Walk.events_more, proofs.Walk.from_over}
use Rattle.trace.specs.inner.Putting.{Progress}
use Rattle.trace.proofs.{Laying.{puts_none, rooms_head, rooms_as, progress_starts, progress_as, progress_more, progress_ends}, put_elements.Statement.statement}
use Rattle.trace.proofs.put_elements.Tie as tie

abbrev invariant-loop : tie.invariant-loop-at
invariant-loop rows₀ out₀ s start given end q₀ under₀ at₀ rows out q under at =
    Elements s at × Progress rows₀ rows out₀ out q₀ q (component_events (components_left s at under)) (component_events (components_after s start))

abbrev decreases-loop : tie.decreases-loop-at
decreases-loop rows₀ out₀ s start given end q₀ under₀ at₀ rows out q under at = length s - at

-- the function's start, the loop's place, and where an element's end is known
abbrev start : tie.At-loop-at invariant-loop decreases-loop → tie.Start invariant-loop decreases-loop
start l = l.before.before.before.before.before

abbrev loop : tie.After-element_end-next invariant-loop decreases-loop → tie.At-loop-at invariant-loop decreases-loop
loop e = e.before.before

abbrev ended : tie.After-put_at-q invariant-loop decreases-loop → tie.After-element_end-next invariant-loop decreases-loop
ended p = p.before.before.before

-- the elements after the one at the loop's place
onward : (e : tie.After-element_end-next invariant-loop decreases-loop) → Elements (start (loop e)).args.s.now e.element_end-next.result
onward e = elements_on (loop e).loop-at.invariant.0 e.before.loop-at-test.true e.element_end-next.ensures

put-at-requires : tie.Need-put_at-q-requires invariant-loop decreases-loop
put-at-requires c κs =
    let e = c.before.before in
    let l = loop e in
    let s = (start l).args.s.now in
    let is = e.element_end-next.ensures in
    let octet : get_or s (l.loop-at.at + 1) 0 < 256 = omega (arith, l.before.before.shared_slice_known-1.given (l.loop-at.at + 1)) in (
      omega (arith, is, end_past s l.loop-at.at),
      (onward e).place,
      is,
      omega (arith, is, end_near s l.loop-at.at octet),
      rooms_head _ (rooms_as (events_more l.loop-at.invariant.0 e.before.loop-at-test.true is l.loop-at.under refl) l.loop-at.invariant.1.room),
    )

loop-less : tie.Need-loop-at-smaller invariant-loop decreases-loop
loop-less c =
    let p = c.before.before.before.before.before.before in
    let e = ended p in
    omega (arith, e.element_end-next.ensures, end_past (start (loop e)).args.s.now (loop e).loop-at.at, e.before.loop-at-test.true, (onward e).place)

loop-again : tie.Need-loop-at-preserved invariant-loop decreases-loop
loop-again c =
    let p = c.before.before.before.before.before.before in
    let e = ended p in
    let l = (loop e).loop-at in
    let more = events_more l.invariant.0 e.before.loop-at-test.true e.element_end-next.ensures l.under c.under_after-under.ensures in
    (onward e, progress_more _ (progress_as more l.invariant.1) p.put_at-q.ensures)

returns-2 : tie.Need-returns invariant-loop decreases-loop
returns-2 c =
    let l = c.before in
    let over = from_over (start l).args.s.now l.loop-at.at l.loop-at.under l.loop-at.invariant.0.place c.loop-at-test.false in
    rw l.before.if-not-given.false (progress_ends (progress_as (ap component_events over) l.loop-at.invariant.1))

pub put_elements_spec : {M : Type 1} → statement M
put_elements_spec =
    tie.close
    (tie.spec invariant-loop decreases-loop (λ c. rw c.if-not-given.true (puts_none _ _ _))
    (λ c. let s = c.before.before.before.before in (s.requires.0, progress_starts (rw c.if-not-given.false at s.requires.1))) (λ c κs. c.loop-at-test.true) put-at-requires
    (λ c. let p = c.before.before.before.before.before in (ended p).before.loop-at-test.true) (omega arith) loop-less loop-again
    (λ c. c.before.loop-at.invariant.1.laid.in_rows.kept) (λ c. c.before.loop-at.invariant.1.laid.in_out.kept) returns-2)
