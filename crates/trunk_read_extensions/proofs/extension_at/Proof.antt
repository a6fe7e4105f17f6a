-- Each return by the answers that led to it.
use Rattle.prelude.proofs.Prelude.{rules, arith, ◌≤◌, refl, length}
use Rattle.coding.{specs.inner.Shown.shown, proofs.Laws.Octets, proofs.Reading.reading}
use Rattle.read_figures.proofs.Answers.{storing, surplus, arrived}
use Rattle.trunk_types.specs.Extensions.{no_extension, extension_at}
use Rattle.trunk_read_extensions.specs.inner.Judges.{inside_of}
use Rattle.trunk_read_extensions.proofs.{Stores.Ends, Stores.extension_read, Stores.in_fault, Stores.in_next, Stores.in_sized, Stores.room_in, Stores.in_place_lem, extension_at.Statement.statement}
use Rattle.trunk_read_extensions.proofs.extension_at.Tie as tie

-- what is lent are octets
octets : (c : tie.After-shared_slice_known-1) → Octets c.before.args.s.now
octets c i = omega (arith, c.shared_slice_known-1.given i)

-- the element lies inside them
inside : (c : tie.After-open_at-e) → c.open_at-e.result.value.stop ≤ length c.before.before.args.s.now
inside c = omega arith

-- where what is in it ends
next : (c : tie.Else-o-ne0) → let j = c.before.before in j.inside_at-o.result.next ≤ j.before.before.before.open_at-e.result.value.stop
next c =
    let j = c.before.before in
    let o = j.before.before.before in
    in_next _ o.before.before.args.kind _ _ _ o.open_at-e.ensures.0 j.before.if-e-ne0.false (octets o.before) o.open_at-e.ensures.1.0 (inside o)
    j.inside_at-o.ensures c.if-o-ne0.false

-- how it may end where its shortest form is counted
counted : (c : tie.After-forms_size-size) →
    let j = c.before.before.before in
    let o = j.before.before.before in
    let a = o.before.before.args in
    let e = o.open_at-e.result in
    Ends (shown no_extension ((extension_at a.tag a.kind (inside_of a.kind)).read a.s.now a.at a.end)) a.s.now e.value a.kind
    e.next j.inside_at-o.result.next c.forms_size-size.result
counted c = search (in_sized, octets, inside)

pub extension_at_spec : {M : Type 1} → statement M
extension_at_spec =
    tie.close
    (tie.spec (λ c κs. search rules) (λ c κs. search rules) (λ c. rw extension_read (search (storing, reading))) (λ c κs. search rules) (λ c κs. search rules)
    (λ c. search (storing, in_fault, octets, inside)) (λ c κs. omega (arith, next c)) (λ c κs. search rules)
    (λ c. let t = c.before in surplus _ _ c.halted-then-size-gt242.ensures refl ((counted t.before).long t.if-size-gt242.true)) (λ c κs. search rules)
    (λ c. let t = c.before in let e = t.before in surplus _ _ c.halted-then-last-stop.ensures refl ((counted e.before).over e.if-size-gt242.false t.if-last-stop.true))
    (λ c κs.
    let e = c.before in
    let f = e.before.before in
    let o = f.before.before.before.before.before.before in
    let r = (counted f).room e.if-last-stop.false in (
      (omega (arith, o.open_at-e.ensures.1.1), o.open_at-e.ensures.1.0),
      ((r.0, rw e.if-last-stop.false at f.forms_size-size.ensures), (omega arith, room_in _ o.before.before.requires.1 (omega (arith, r.1)))),
    ))
    (λ c. omega arith) (λ c. omega (arith, c.if-size-gt242.false)) (λ c. omega arith) (λ c κs. search rules)
    (λ c.
    let p = c.before.before in
    let e = p.before.before in
    let f = e.before.before in
    let o = f.before.before.before.before.before.before in
    let small = e.before.if-size-gt242.false in
    let whole = e.if-last-stop.false in
    arrived _ _ c.reached.ensures
    ((counted f).done small whole _ (in_place_lem _ _ _ _ _ _ o.before.before.requires.1 p.put_sized.ensures small ((counted f).room whole).1))))
