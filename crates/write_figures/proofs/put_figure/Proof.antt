use Rattle.coding.proofs.Writing.{room_as, room_head}
use Rattle.write_figures.proofs.{Cited.{arith, wrote_is, room_2, room_3, wrote_three}, Plain.{figure_fine_lem, figure_small, figure_none, figure_free}}
use Rattle.write_figures.proofs.{Plain.{figure_arranged, figure_valid, figure_few, figure_1, figure_octets_lem}, put_figure.Statement.statement}
use Rattle.write_figures.proofs.put_figure.Tie as tie

put-money-requires : tie.Need-put_money-q-requires
put-money-requires c κs =
    let p = c.before.before.before in let d = p.before in
    let b = d.before.before in let e = b.before.before in let h = e.before.before in let i = h.before.before in let z = i.before.before.requires in
    let x = figure_octets_lem _ _ z.0 z.1.0 z.1.1.0 h.if-f-eq-NONE.false b.if-f-eq-FREE.false e.if-f-eq-ARRANGEMENT.false _ d.money_size.ensures.0 in
    (figure_valid _ _ z.0 z.1.0 z.1.1.0 h.if-f-eq-NONE.false b.if-f-eq-FREE.false e.if-f-eq-ARRANGEMENT.false, room_head _ (room_2 x z.1.1.1 p.put_before-p.ensures))

put-after-requires : tie.Need-put_after-requires
put-after-requires c κs =
    let q = c.before.before.before in let r = q.before.before.before in let p = r.before in let d = p.before in
    let b = d.before.before in let e = b.before.before in let h = e.before.before in let i = h.before.before in let z = i.before.before.requires in
    let x = figure_octets_lem _ _ z.0 z.1.0 z.1.1.0 h.if-f-eq-NONE.false b.if-f-eq-FREE.false e.if-f-eq-ARRANGEMENT.false _ d.money_size.ensures.0 in
    (figure_fine_lem _ _ z.0 z.1.0 z.1.1.0, room_3 x z.1.1.1 p.put_before-p.ensures q.put_money-q.ensures)

returns-4 : tie.Need-returns
returns-4 c =
    let c3 = c.before.before.before in let q = c3.before.before.before in let r = q.before.before.before in let p = r.before in let d = p.before in
    let b = d.before.before in let e = b.before.before in let h = e.before.before in let i = h.before.before in let z = i.before.before.requires in
    let x = figure_octets_lem _ _ z.0 z.1.0 z.1.1.0 h.if-f-eq-NONE.false b.if-f-eq-FREE.false e.if-f-eq-ARRANGEMENT.false _ d.money_size.ensures.0 in
    wrote_three x p.put_before-p.ensures q.put_money-q.ensures c.before.before.put_after.ensures

pub put_figure_spec : {M : Type 1} → statement M
put_figure_spec =
    tie.close
    (tie.spec (λ c κs. search (room_as, figure_none)) (omega arith) (λ c. search (wrote_is, figure_none)) (λ c κs. search (figure_small, room_as, figure_arranged))
    (omega arith) (λ c. search (wrote_is, figure_arranged)) (λ c κs. search (figure_fine_lem, room_as, figure_free)) (omega arith)
    (λ c. search (wrote_is, figure_free)) (λ c κs. search figure_valid) (λ c κs. search (figure_fine_lem, figure_few, figure_1))
    put-money-requires put-after-requires (omega arith) returns-4)
