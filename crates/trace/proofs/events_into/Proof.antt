use Rattle.prelude.proofs.Prelude.{arith, sym, ap, ◌∙◌}
use Rattle.trace_framing.specs.declared.TraceVerdict.{TraceVerdict}
use Rattle.trace_messages.proofs.Theorems.{not_refused}
use Rattle.trace.proofs.{Whole.refused, Whole.accepted, events_into.Statement.statement}
use Rattle.trace.proofs.events_into.Tie as tie

-- the function's start, from where the trace is judged
abbrev start : tie.After-judge-v → tie.Start
start j = j.before.before.before.before.before

returns : tie.Need-returns-then-v-ne0
returns c =
    let j = c.before.before in
    let x = (start j).args in
    refused x.pairs.now x.octets.now x.rows.now x.out.now j.judge-v.ensures c.if-v-ne0.true

lay-requires : tie.Need-lay-requires
lay-requires c κs =
    let i = c.before.before in
    let j = i.before.before in
    not_refused (start j).args.pairs.now (start j).args.octets.now (sym (ap (λ (v : TraceVerdict). v.number) j.judge-v.ensures) ∙ i.if-v-ne0.false)

returns-2 : tie.Need-returns
returns-2 c =
    let p = c.before.before.before.before in
    let i = p.before.before.before in
    let j = i.before.before in
    let x = (start j).args in
    accepted x.pairs.now x.octets.now x.rows.now x.out.now j.judge-v.ensures i.if-v-ne0.false p.lay.ensures

pub events_into_spec : {M : Type 1} → statement M
events_into_spec = tie.close (tie.spec (omega arith) returns lay-requires (omega arith) (omega arith) returns-2)
