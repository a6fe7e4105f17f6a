use Rattle.std.proofs.Common.{◌≡◌, ◌≤◌, sym, ap, ◌∙◌, arith}
use Rattle.month_rows.proofs.Search.{at_most}
use Rattle.month_rules.specs.{declared.Month.Month, declared.Added.Added, Month.{with_place, added, add_figure}}
use Rattle.month_rules.proofs.Adding.{add_46, add_47, add_money, add_free, add_units}
use Rattle.month_rules.proofs.add_figure.Goals as goal
use Rattle.month_rules.proofs.add_figure.Goals.{in-2+else-i-eq16, in-1, in_default}

pub returns-then-m-ge4096 : goal.returns-then-m-ge4096
returns-then-m-ge4096 c = c.answer.ensures ∙ sym (add_46 _ _ _ c.if-m-ge4096.true)

pub returns-then-i-eq16 : goal.returns-then-i-eq16
returns-then-i-eq16 c =
    c.answer-then-i-eq16.ensures
    ∙ sym (add_47 _ _ _ c.if-m-ge4096.false c.in-2.is c.row_of-i.result c.places-n.result c.places-n.ensures.0 c.row_of-i.ensures c.if-i-eq16.true)

-- the row that is found is one of the 16, or is new after fewer
pub with_money-next-requires : goal.with_money-next-requires
with_money-next-requires c =
    let z = at_most c.args.c.figure.money.currency c.places-n.result c.args.m.rows in
    let most : c.row_of-i.result ≤ 16 = omega (arith, z) in
    let other = c.if-i-eq16.false in
    (omega arith, c.places-n.ensures.0, c.row_of-i.ensures)

pub returns : goal.returns
returns c =
    let a = c.args in
    let done : Month → Added = λ n. added 0 (with_place n a.service a.c.figure.billed a.c.figure.billing) in
    let e : done c.match-f.next ≡ add_figure a.m a.service a.c =
    elim c.match-f.branch [
      | in-2+else-i-eq16 w ↦ ap done (w.next-is ∙ w.with_money-next.ensures)
          ∙ sym (add_money _ _ _ c.if-m-ge4096.false w.in-2.is w.row_of-i.result w.places-n.result w.places-n.ensures.0 w.row_of-i.ensures w.if-i-eq16.false)
      | in-1 w ↦ ap done (w.next-is ∙ w.with_free-next.ensures) ∙ sym (add_free _ _ _ c.if-m-ge4096.false (λ k. omega arith) w.in-1.is)
      | in_default w ↦ ap done (w.next-is ∙ w.with_units-next.ensures) ∙ sym (add_units _ _ _ c.if-m-ge4096.false (λ k. omega arith) (λ k. omega arith))
    ] in
    c.answer-2.ensures ∙ ap (added 0) c.with_place.ensures ∙ e
