-- At each place the components of what is left of the element are still to be laid.
use Rattle.prelude.proofs.Prelude.{ℕ, List, ◌-◌, sym, ap, ◌∙◌, arith, length}
use Rattle.coding.{specs.Reader.part, proofs.Parts.part_length}
use Rattle.element.specs.{Element.element_of, Cut.starts_of, Cut.parts_of}
use Rattle.element_pass.proofs.Going.{Goes, Here, goes_first, goes_on, goes_none}
use Rattle.trace_messages.{specs.Trace.components_in, specs.Trace.component_events, proofs.Walk.in_other, proofs.Walk.in_parts}
use Rattle.trace.specs.inner.Putting.{Progress}
use Rattle.trace.proofs.Laying.{puts_none, puts_as, rooms_head, rooms_as, progress_starts, progress_as, progress_more, progress_ends}
use Rattle.trace.proofs.put_tiles.Statement.{statement}
use Rattle.trace.proofs.put_tiles.Tie as tie

abbrev invariant-loop : tie.invariant-loop-found
invariant-loop rows₀ out₀ s q₀ place₀ found₀ rows out q place found =
    (left : List ℕ) × Goes s place found left × Progress rows₀ rows out₀ out q₀ q (component_events (parts_of s left)) (component_events (components_in s))

abbrev decreases-loop : tie.decreases-loop-found
decreases-loop rows₀ out₀ s q₀ place₀ found₀ rows out q place found = length s - place

-- the function's start, from the state after its first call
abbrev start : tie.After-is_profiled invariant-loop decreases-loop → tie.Start invariant-loop decreases-loop
start p = p.before.before.before.before

abbrev start_of : tie.At-loop-found invariant-loop decreases-loop → tie.Start invariant-loop decreases-loop
start_of l = start l.before.before.before

-- the component that is found at the loop's place, and the events that are left then
here : (c : tie.In-loop-found invariant-loop decreases-loop) → let l = c.before.before in Here (start_of l).args.s.now l.loop-found.place l.loop-found.found l.loop-found.invariant.0
here c = let l = c.before.before in goes_on l.loop-found.invariant.1 c.loop-found-test.true

returns : tie.Need-returns-then-not-is_profiled invariant-loop decreases-loop
returns c =
    let p = c.before in
    puts_as (sym (ap component_events (in_other (start p).args.s.now (sym p.is_profiled.ensures ∙ c.if-not-is_profiled.true)))) (puts_none _ _ _)

loop-holds : tie.Need-loop-found-init invariant-loop decreases-loop
loop-holds c =
    let p = c.before.before in
    let s = (start p).args.s.now in (
      starts_of (element_of s),
      goes_first s c.first-found.ensures,
      progress_as (ap component_events (in_parts s (sym p.is_profiled.ensures ∙ c.before.if-not-is_profiled.false))) (progress_starts (start p).requires.1),
    )

put-component-requires : tie.Need-put_component-q-requires invariant-loop decreases-loop
unfolding part
put-component-requires c κs =
    let t = c.before.before.before in
    let h = here t in
    let l = t.before.before in
    (omega (arith, (start_of l).requires.0, part_length (start_of l).args.s.now l.loop-found.place l.loop-found.found.after h.ends), rooms_head _ (rooms_as (ap component_events h.parts) l.loop-found.invariant.2.room))

-- the state after a component is laid, from the one at the turn's end
abbrev laid : tie.After-slice_known-in-loop-found-2-1 invariant-loop decreases-loop → tie.After-put_component-q invariant-loop decreases-loop
laid c = c.before.before.before.before

abbrev turn : tie.After-slice_known-in-loop-found-2-1 invariant-loop decreases-loop → tie.In-loop-found invariant-loop decreases-loop
turn c = (laid c).before.before.before.before

loop-again : tie.Need-loop-found-preserved invariant-loop decreases-loop
unfolding part
loop-again c =
    let t = turn c.before in
    let l = t.before.before in
    let h = here t in
    (h.rest, h.onward c.onward-found.ensures, progress_more _ (progress_as (ap component_events h.parts) l.loop-found.invariant.2) (laid c.before).put_component-q.ensures)

returns-2 : tie.Need-returns invariant-loop decreases-loop
returns-2 c =
    let l = c.before.before in
    let none = goes_none l.loop-found.invariant.1 c.loop-found-test.false in
    progress_ends (progress_as (ap (λ (k : List ℕ). component_events (parts_of (start_of l).args.s.now k)) none) l.loop-found.invariant.2)

pub put_tiles_spec : {M : Type 1} → statement M
put_tiles_spec =
    tie.close
    (tie.spec invariant-loop decreases-loop (omega arith) returns (omega arith) loop-holds (λ c. let h = here c.before.before in omega (arith, h.begins, h.ends))
    (λ c. let h = here c.before.before in omega (arith, h.begins, h.ends)) (λ c. let h = here c.before.before in omega (arith, h.begins, h.ends)) put-component-requires
    (λ c κs. (here (turn c)).along) (λ c. let h = here (turn c.before) in omega (arith, h.begins, h.ends)) loop-again
    (λ c. let l = c.before.before in l.loop-found.invariant.2.laid.in_rows.kept) (λ c. let l = c.before.before in l.loop-found.invariant.2.laid.in_out.kept) returns-2)
