-- Each return by the answers that led to it.
use Rattle.prelude.proofs.Prelude.{rules, arith, ◌≡◌, refl, ◌∙◌}
use Rattle.coding.{specs.Reader.constructed, specs.inner.Shown.shown, proofs.Reading.{reading, step, stay, assoc, shut, remains}}
use Rattle.types.specs.{Arguments.no_charge, Stored.stored_charge}
use Rattle.read_lengths.specs.inner.Bounds.{Bounded}
use Rattle.read_unit.specs.inner.Readers.{is_subtotal}
use Rattle.read_lists.{specs.inner.Answers.Clear, proofs.Clear.clear}
use Rattle.read_charges.specs.inner.Readers.{priced_of}
use Rattle.read_figures.proofs.Answers.{storing, refused, surplus, goes, closes}
use Rattle.read_charges.proofs.{Stores.totals_stored, Steps.{totals, priced_read}, priced_at.Statement.statement}
use Rattle.read_charges.proofs.priced_at.Tie as tie

-- what is left to read where A1 is read, and what is known there
amount : (c : tie.Else-p-ne0) →
    let p = c.before.before.before in
    let q = p.before.before.before in
    let e = q.before.before.before.before.before.before in
    let g = e.before.before.args in
    let w = p.price_in-contents.new in
    let o = e.open_at-e.result in
    (shown no_charge (totals (is_subtotal g.operation) (stored_charge w.figure w.numbers w.rows) g.s.now c.before.before.closed-p.result.next o.value.stop o.next)
    ≡ shown no_charge ((priced_of g.operation).read g.s.now g.at g.end))
    × Clear w.figure × Bounded g.s.now o.value.stop
unfolding constructed
amount c =
    let z = c.before.before in
    let p = z.before in
    let q = p.before.before.before in
    let a = q.before.before.before in
    let e = a.before.before.before in
    let b = e.before.before.requires.0 in
    let contents = closes _ _ _ _ _ _ z.closed-p.ensures p.price_in-contents.ensures.0 in (
      rw priced_read (step _ _ _ _ e.open_at-e.ensures.0 a.before.if-e-ne0.false
          (assoc _ _ _ _ (step _ _ _ _ a.open_at-a.ensures.0 q.before.if-a-ne0.false (goes _ _ _ _ _ contents c.if-p-ne0.false refl)))),
      p.price_in-contents.ensures.1,
      (omega (arith, b.0), omega (arith, b.1)),
    )

-- where A1 is read, from where the type is and from where the billing is
abbrev typed : tie.Else-t-ne0 → tie.Else-p-ne0
typed c = c.before.before.before

abbrev billed : tie.Else-b-ne0 → tie.Else-p-ne0
billed c = typed c.before.before.before

pub priced_at_spec : {M : Type 1} → statement M
unfolding constructed
priced_at_spec =
    tie.close
    (tie.spec (λ c. omega arith) (λ c. omega arith) (λ c. (rw priced_read (search (storing, reading)), search clear)) (λ c. omega arith) (λ c. omega arith)
    (λ c. (rw priced_read (search (storing, reading)), search clear)) (λ c κs. search rules) (λ c. omega arith) (λ c. omega arith)
    (λ c.
    let z = c.before.before.before in
    let q = z.before.before.before.before in
    let a = q.before.before.before in
    let contents = closes _ _ _ _ _ _ z.closed-p.ensures z.before.price_in-contents.ensures.0 in (
      rw priced_read (refused _ _ c.halted-then-p-ne0.ensures c.before.if-p-ne0.true (step _ _ _ _ a.before.before.before.open_at-e.ensures.0 a.before.if-e-ne0.false
          (assoc _ _ _ _ (step _ _ _ _ a.open_at-a.ensures.0 q.before.if-a-ne0.false (stay _ _ _ _ contents c.before.if-p-ne0.true))))),
      search,
    ))
    (λ c κs. (amount c).2) (λ c. omega arith)
    (λ c. let m = amount c.before.before.before.before in (search (storing, reading) ∙ m.0, m.1))
    (λ c κs. (amount (typed c)).2) (λ c. omega arith)
    (λ c. let m = amount (typed c.before.before.before.before) in (search (storing, reading) depth 8 fits 4000 ∙ m.0, m.1)) (λ c. omega arith)
    (λ c. let m = amount (billed c.before.before.before.before) in (search (surplus, step, remains) depth 8 fits 4000 ∙ m.0, m.1))
    (λ c. omega arith) (λ c. omega arith) (λ c. omega arith) (λ c. omega arith) (λ c. omega arith) (λ c. omega arith) (λ c. omega arith)
    (λ c.
    let f = c.before.before.before.before in
    let l = f.before.before.before in
    let m = amount (billed l.before) in (
      totals_stored _ _ _ c.reached.ensures l.before.before.billing_at-b.result.value.given _ _ _ m.1 c.before.before.flag.ensures
          (search (step, shut) depth 8 fits 4000) ∙ m.0,
      search clear,
    )))
