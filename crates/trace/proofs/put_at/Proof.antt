use Rattle.prelude.proofs.Prelude.{◌≡◌, sym, ap, arith}
use Rattle.coding.{specs.Reader.part, proofs.Parts.part_length}
use Rattle.trace_messages.{specs.Trace.components_in, specs.Trace.components_at, specs.Trace.component_events, proofs.Walk.at_under, proofs.Walk.at_other, proofs.Walk.at_facility}
use Rattle.trace.proofs.{Laying.puts_none, Laying.puts_as, Laying.rooms_as, put_at.Statement.statement}
use Rattle.trace.proofs.put_at.Tie as tie

-- the function's start, from where it is a Facility element, whose components those at the place are
abbrev start : tie.Else-s-at-ne28 → tie.Start
start f = f.before.before.before.before.before.before

facility : (f : tie.Else-s-at-ne28) → let x = (start f).args in
    component_events (components_at x.s.now x.at x.under) ≡ component_events (components_in (part x.s.now x.at x.next))
facility f =
    let x = (start f).args in
    ap component_events (at_facility x.s.now x.at x.under x.next f.before.before.if-under-ne0.false f.if-s-at-ne28.false (start f).requires.2)

returns : tie.Need-returns-then-under-ne0
returns c =
    let x = c.before.before.before.before.args in
    puts_as (sym (ap component_events (at_under x.s.now x.at x.under c.if-under-ne0.true))) (puts_none _ _ _)

returns-2 : tie.Need-returns-then-s-at-ne28
returns-2 c =
    let x = c.before.before.before.before.before.before.args in
    puts_as (sym (ap component_events (at_other x.s.now x.at x.under c.before.before.if-under-ne0.false c.if-s-at-ne28.true))) (puts_none _ _ _)

put-tiles-requires : tie.Need-put_tiles-requires
unfolding part
put-tiles-requires c κs =
    let f = c.before.before.before in
    let s = start f in
    (omega (arith, s.requires.3, part_length s.args.s.now s.args.at s.args.next s.requires.1), rooms_as (facility f) s.requires.4)

returns-3 : tie.Need-returns
unfolding part
returns-3 c =
    let p = c.before.before.before.before in
    puts_as (sym (facility p.before.before.before.before)) p.put_tiles.ensures

pub put_at_spec : {M : Type 1} → statement M
put_at_spec =
    tie.close
    (tie.spec returns (λ c. let s = c.before.before.before.before.before in omega (arith, s.requires.0, s.requires.1)) returns-2
    (omega arith) (omega arith) (omega arith) put-tiles-requires (omega arith) (omega arith) returns-3)
