use Rattle.prelude.proofs.Prelude.{arith, sym}
use Rattle.trace.proofs.{Laying.{rooms_as, puts_as}, Whole.{events_few, octets_few, too_many, too_long, room_for, lays}, lay.Statement.statement}
use Rattle.trace.proofs.lay.Tie as tie

put-trace-requires : tie.Need-put_trace-end-requires
put-trace-requires c κs =
    let f = c.before.before in let e = f.before in let k = e.before in let b = k.before.before.before in let p = b.before.before.requires in
    (p.0, p.1, rooms_as (sym k.call_of-call.ensures) (room_for _ _ _ _ e.if-rows-n.false f.if-out-n.false (events_few _ _ p.0 p.1) (octets_few _ _ p.0 p.1)))

returns-3 : tie.Need-returns
returns-3 c =
    let q = c.before.before.before in let t = q.before.before in let f = t.before.before.before in let e = f.before in let k = e.before in
    let b = k.before.before.before in let p = b.before.before.requires in
    lays _ _ _ _ e.if-rows-n.false f.if-out-n.false (events_few _ _ p.0 p.1) (octets_few _ _ p.0 p.1) _ _ _ (puts_as k.call_of-call.ensures t.put_trace-end.ensures)

pub lay_spec : {M : Type 1} → statement M
lay_spec =
    tie.close
    (tie.spec (λ c κs. let b = c.before.before.before in b.before.requires) (λ c. too_many _ _ _ _ c.if-rows-n.true)
    (λ c. let e = c.before in too_long _ _ _ _ e.if-rows-n.false c.if-out-n.true) put-trace-requires
    (omega arith) (omega arith) returns-3)
