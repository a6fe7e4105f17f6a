use Rattle.write_figures.proofs.{Cited.{arith, rules, room_as, wrote_is, wrote_two}, Frames.{fine_total, fine_billing, fine_association}}
use Rattle.write_figures.proofs.{Frames.{during_few, before_during, before_ending, before_1, before_2}, put_before.Statement.statement}
use Rattle.write_figures.proofs.put_before.Tie as tie

put-lead-requires : tie.Need-put_lead-p-requires
put-lead-requires c κs =
    let d = c.before.before.before in let i = d.before.before.before in let s = i.before.before in
    before_1 _ _ _ _ _ d.before.before.sized.ensures.0 d.before.marks_size.ensures.0 _ c.before.sized-2.ensures.0 _
    c.association_size.ensures.0 (search) s.requires.0.1 s.requires.1

put-leads-requires-2 : tie.Need-put_leads-requires-2
put-leads-requires-2 c κs =
    let p = c.before.before.before in let e = p.before in let d = e.before.before.before in let i = d.before.before.before in let s = i.before.before in
    before_2 _ _ _ _ _ d.before.before.sized.ensures.0 d.before.marks_size.ensures.0 _ e.before.sized-2.ensures.0 _
    e.association_size.ensures.0 (search) s.requires.0.1 s.requires.1 p.put_lead-p.ensures

returns-2 : tie.Need-returns
returns-2 c =
    let i = c.before.before.before in let p = i.before.before.before in let e = p.before in let d = e.before.before.before in
    wrote_two (before_ending _ _ _ _ _ d.before.before.sized.ensures.0 d.before.marks_size.ensures.0 _ e.before.sized-2.ensures.0 _
    e.association_size.ensures.0 (search)) p.put_lead-p.ensures c.before.before.put_leads-2.ensures

pub put_before_spec : {M : Type 1} → statement M
put_before_spec =
    tie.close
    (tie.spec (omega arith) (λ c κs. search (fine_total, fine_billing)) (omega arith) (λ c κs. search (rules, during_few, room_as, before_during)) (omega arith)
    (λ c. search (wrote_is, before_during)) (omega arith) (λ c κs. search fine_association) (omega arith) put-lead-requires put-leads-requires-2 (omega arith) returns-2)
