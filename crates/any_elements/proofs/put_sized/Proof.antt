-- Copied, or put form by form.
use Rattle.prelude.proofs.Prelude.{arith, rules, sym}
use Rattle.coding.proofs.{Laws.Octets, Writing.wrote_as, Writing.room_as}
use Rattle.any_elements.proofs.{Puts.size_is, Puts.Copied, Puts.copied, put_sized.Statement.statement}
use Rattle.any_elements.proofs.put_sized.Tie as tie

abbrev start : tie.Then-size-end → tie.Start
start t = t.before.before

copies : (t : tie.Then-size-end) → Copied (start t).args.s.now (start t).args.at (start t).args.end (start t).args.size
copies t =
    let p = (start t).requires in
    let o : Octets (start t).args.s.now = λ j. omega (arith, t.before.shared_slice_known-1.given j) in
    copied (record { octets = o; inside = omega arith; small = omega arith }) p.0.1 p.1.0.0 p.1.0.1 p.1.1.0 t.if-size-end.true

pub put_sized_spec : {M : Type 1} → statement M
put_sized_spec =
    tie.close
    (tie.spec (λ c. search rules) (λ c. search rules) (λ c. search rules) (λ c. search rules)
    (λ c κs. let t = c.before.before in let w = copies t in (w.0, room_as (start t).requires.1.1.1 (sym w.1)))
    (λ c. wrote_as (copies c.before.before.before).1 c.put_octets.ensures)
    (λ c κs.
    let p = c.before.before.before.requires in
    (p.0.0, (p.1.0.0, (omega (arith, size_is _ p.1.0.0 p.1.0.1, p.1.1.0), p.1.1.1))))
    (λ c. search rules))
