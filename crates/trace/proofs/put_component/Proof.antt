use Rattle.phases.specs.declared.Event.{Event}
use Rattle.trace_messages.specs.Trace.{component_event}
use Rattle.trace.proofs.{Cited.{arith, refl}, Laying.{row_room, run_room, event_put}, put_component.Statement.statement}
use Rattle.trace.proofs.put_component.Tie as tie

-- the function's start, from where the row is put; the event
abbrev start : tie.After-put_row-row → tie.Start
start r = r.before.before.before.before.before.before

abbrev its : tie.Start → Event
its s = (component_event s.args.octets.now).event

returns : tie.Need-returns
returns c =
    let o = c.before.before in
    let r = o.before.before.before.before in
    event_put (its (start r)) (start r).args.octets.now _ _ _ _ (start r).args.p _ _ refl (rw r.before.before.bare_event-e.ensures at r.put_row-row.ensures) o.put_octets-end.ensures

pub put_component_spec : {M : Type 1} → statement M
put_component_spec =
    tie.close
    (tie.spec (omega arith) (λ c. let s = c.before.before.before.before.before in omega (arith, s.requires.0))
    (λ c κs. let b = c.before in let s = b.before.before.before.before in rw b.bare_event-e.ensures (row_room (its s) s.args.octets.now _ refl s.requires.1))
    (λ c κs. let s = start c.before.before.before in (omega arith, run_room (its s) s.args.octets.now s.requires.1))
    (omega arith) (omega arith) returns)
