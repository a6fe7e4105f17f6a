use Rattle.prelude.proofs.Prelude.{◌<◌, arith}
use Rattle.types.specs.{declared.Record.Record, Stored.with_list}
use Rattle.write_rate.proofs.Prices.{was_true}
use Rattle.write_heads.specs.inner.Halves.{record_of}
use Rattle.write.proofs.{Fits.its_front, Fits.frame_few, Outcomes.Known, Outcomes.Sized, Outcomes.Whole, Outcomes.not_fine, Outcomes.long_charge, Outcomes.long_body, Outcomes.no_room}
use Rattle.write.proofs.{Outcomes.put_record_1, Outcomes.put_record_2, Outcomes.put_record_3, Outcomes.put_record_few, put_record.Statement.statement}
use Rattle.write.proofs.put_record.Tie as tie

-- ---- what is known on the way

abbrev given : tie.Start → Record
given s = record_of s.args.f (with_list s.args.figure s.args.numbers.now s.args.rows.now)

small : (s : tie.Start) → (given s).front.id < 0x10000
small s = omega arith

abbrev start : tie.After-charge_size-n → tie.Start
start c = let e = c.before in e.before.before.before

known : (c : tie.After-charge_size-n) → Known (given (start c)) c.charge_size-n.result
known c = record { small = small (start c); fine = was_true c.before.before.record_fine.ensures.0 c.before.if-not-record_fine.false; charge = c.charge_size-n.ensures }

sized : (c : tie.After-front_size) → Sized (given (start c.before.before)) c.before.before.charge_size-n.result c.front_size.result
sized c = record { known = known c.before.before; front = c.front_size.ensures.0 }

abbrev measured : tie.After-element_size-whole → tie.After-front_size
measured c = c.before.before

whole : (c : tie.After-element_size-whole) → let m = measured c in
    Whole (given (start m.before.before)) m.before.before.charge_size-n.result m.front_size.result c.element_size-whole.result
whole c = record { sized = sized (measured c); most = c.before.if-m-gt251.false; is = c.element_size-whole.ensures.0 }

-- its lead is written
abbrev led : tie.After-put_body-arg-1 → tie.After-put_lead-p
led c = c.before.before.before

abbrev roomy : tie.After-put_lead-p → tie.Else-buf-whole
roomy c = c.before.before.before

-- ---- the needs

put-body-requires : tie.Need-put_body-q-requires
put-body-requires c κs =
    let w = roomy (led c) in
    let m = measured w.before in
    let n = m.before.before in (
      ((known n).fine, n.before.before.record_fine.ensures.1),
      (
        (n.charge_size-n.ensures, omega (arith, m.before.if-n-ge250.false)),
        put_record_2 (whole w.before) w.if-buf-whole.false (led c).put_lead-p.ensures,
      ),
    )

pub put_record_spec : {M : Type 1} → statement M
put_record_spec =
    tie.close
    (tie.spec (λ c κs. c.before.requires) (λ c κs. omega arith)
    (λ c. let f = c.before.before in let s = f.before.before in
    not_fine (given s) _ (small s) f.record_fine.ensures.0 c.before.if-not-record_fine.true c.refuse.ensures)
    (λ c κs. (was_true c.before.record_fine.ensures.0 c.if-not-record_fine.false, c.before.record_fine.ensures.1)) (λ c κs. omega arith)
    (λ c. long_charge (known c.before.before) _ c.before.if-n-ge250.true c.refuse-then-n-ge250.ensures)
    (λ c κs. (its_front (start c.before).args.f _ (known c.before).fine, omega arith)) (λ c. omega arith) (λ c κs. omega arith)
    (λ c. long_body (sized c.before.before) _ c.before.if-m-gt251.true c.refuse-then-m-gt251.ensures) (λ c κs. omega arith) (λ c κs. omega arith)
    (λ c. no_room (whole c.before.before) _ c.before.if-buf-whole.true c.refuse-then-buf-whole.ensures)
    (λ c. let n = (measured c.before.before.before).before.before in omega (arith, frame_few (start n).args.f (its_front (start n).args.f _ (known n).fine)))
    (λ c κs. let w = c.before.before in (omega arith, put_record_1 (whole w.before) w.if-buf-whole.false)) put-body-requires
    (λ c. let b = c.before.before in let l = led b.before in
    omega (arith, put_record_few (whole (roomy l).before) (roomy l).if-buf-whole.false l.put_lead-p.ensures b.put_body-q.ensures)) (λ c. omega arith)
    (λ c. let b = c.before.before in let l = led b.before in
    put_record_3 (whole (roomy l).before) (roomy l).if-buf-whole.false l.put_lead-p.ensures b.put_body-q.ensures))
