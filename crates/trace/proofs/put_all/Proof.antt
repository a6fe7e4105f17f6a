-- Each need by the room for all, less what was put before.
use Rattle.prelude.proofs.Prelude.{arith, [], ◌∷◌, ◌++◌, List}
use Rattle.phases.specs.Phases.{Given, Clear, Connect, Released}
use Rattle.trace_messages.specs.Trace.{when, phase_event, component_events, components_after}
use Rattle.trace.proofs.{Laying.rooms_head, Laying.rooms_tail, Laying.rows_head, Laying.rows_whole, Laying.puts_both, put_all.Statement.statement}
use Rattle.trace.proofs.put_all.Tie as tie

-- what is left to put after the Setup, the Clear, the components and the Connect
abbrev tail4 : tie.Start → List Given
tail4 s = when s.args.g.released (phase_event Released ∷ [])

abbrev tail3 : tie.Start → List Given
tail3 s = when s.args.g.connect (phase_event Connect ∷ []) ++ tail4 s

abbrev tail2 : tie.Start → List Given
tail2 s = when s.args.g.components (component_events (components_after s.args.s.now s.args.start)) ++ tail3 s

abbrev tail1 : tie.Start → List Given
tail1 s = when s.args.g.clear (phase_event Clear ∷ []) ++ tail2 s

put-when-requires : tie.Need-put_when-b-requires
put-when-requires c κs =
    let a = c.before.before.before in let s = a.before.before.before.before.before in
    rows_head (tail2 s) (rooms_tail {m = tail1 s} (a.put_setup-a.ensures s.args.out.now) s.requires.1)

put-elements-requires : tie.Need-put_elements-d-requires
put-elements-requires c κs =
    let w = c.before.before.before.before in let a = w.before.before.before.before in let s = a.before.before.before.before.before in let o = s.args.out.now in
    (s.requires.0, rooms_head (tail3 s) (rooms_tail {m = tail2 s} (w.put_when-b.ensures o) (rooms_tail {m = tail1 s} (a.put_setup-a.ensures o) s.requires.1)))

put-when-requires-2 : tie.Need-put_when-e-requires
put-when-requires-2 c κs =
    let d = c.before.before.before.before.before in let w = d.before.before.before.before.before in
    let a = w.before.before.before.before in let s = a.before.before.before.before.before in let o = s.args.out.now in
    rows_head (tail4 s) (rooms_tail {m = tail3 s} d.put_elements-d.ensures (rooms_tail {m = tail2 s} (w.put_when-b.ensures o) (rooms_tail {m = tail1 s} (a.put_setup-a.ensures o) s.requires.1)))

put-when-requires-3 : tie.Need-put_when-requires
put-when-requires-3 c κs =
    let v = c.before.before.before in let d = v.before.before.before.before.before.before in let w = d.before.before.before.before.before in
    let a = w.before.before.before.before in let s = a.before.before.before.before.before in let o = s.args.out.now in
    rows_whole (rooms_tail {m = tail4 s} (v.put_when-e.ensures _) (rooms_tail {m = tail3 s} d.put_elements-d.ensures (rooms_tail {m = tail2 s} (w.put_when-b.ensures o)
    (rooms_tail {m = tail1 s} (a.put_setup-a.ensures o) s.requires.1))))

returns : tie.Need-returns
returns c =
    let u = c.before.before in let v = u.before.before.before.before in let d = v.before.before.before.before.before.before in
    let w = d.before.before.before.before.before in let a = w.before.before.before.before in let s = a.before.before.before.before.before in let o = s.args.out.now in
    puts_both (a.put_setup-a.ensures o) (puts_both (w.put_when-b.ensures o) (puts_both d.put_elements-d.ensures (puts_both (v.put_when-e.ensures _) (u.put_when.ensures _))))

pub put_all_spec : {M : Type 1} → statement M
put_all_spec =
    tie.close (tie.spec
    (λ c κs. let s = c.before.before.before.before in (s.requires.0, rows_head (tail1 s) s.requires.1))
    put-when-requires put-elements-requires put-when-requires-2 put-when-requires-3 (omega arith) (omega arith) returns)
