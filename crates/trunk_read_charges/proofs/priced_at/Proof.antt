-- Each return by the answers that led to it.
use Rattle.prelude.proofs.Prelude.{rules, arith, ◌≡◌, refl, ap, ◌∙◌, ◌≤◌, drop, replicate, true}
use Rattle.coding.{specs.inner.Shown.shown, proofs.Reading.{reading, step, stay, shut, remains}}
use Rattle.types.{specs.Arguments.{plain, money_figure, no_charge, in_money, ending}, specs.Stored.money_in, proofs.Stored.money_unassociated}
use Rattle.read_lengths.specs.inner.Bounds.{Bounded}
use Rattle.read_figures.proofs.Answers.{storing, refused, surplus, goes, closes_as}
use Rattle.trunk_types.specs.Bodies.{billings}
use Rattle.trunk_read_charges.proofs.{Stores.{priced_free, priced_stored}, Steps.{billed, priced_read}, priced_at.Statement.statement}
use Rattle.trunk_read_charges.proofs.priced_at.Tie as tie

-- what is left to read where A1 is read, and what is known there
amount : (c : tie.Else-m-ne0) →
    let p = c.before.before.before in
    let a = p.before.before.before.before in
    let e = a.before.before.before in
    let g = e.before.before.args in
    let w = p.money_at-contents.new.figure in
    let o = e.open_at-e.result in
    (shown no_charge (billed g.most (plain (money_figure (money_in w))) g.s.now c.before.before.closed-m.result.next o.value.stop o.next)
    ≡ shown no_charge ((ending (billings g.most) (in_money true)).read g.s.now g.at g.end))
    × (drop 16 w ≡ replicate 32 0) × Bounded g.s.now o.value.stop × (g.most ≤ 7)
amount c =
    let p = c.before.before.before in
    let e = p.before.before.before.before.before.before.before in
    let b = e.before.before.requires.0 in
    let contents = closes_as _ _ _ _ _ _ c.before.before.closed-m.ensures p.money_at-contents.ensures.0 (λ v. plain (money_figure v)) no_charge in
    (rw priced_read (search (goes, step, refl) depth 8), search, (omega (arith, b.0.0), omega (arith, b.0.1)), omega (arith, b.1))

-- where A1 is read, from where the billing is
abbrev priced : tie.Else-b-ne0 → tie.Else-m-ne0
priced c = c.before.before.before

pub priced_at_spec : {M : Type 1} → statement M
priced_at_spec =
    tie.close
    (tie.spec (omega arith) (omega arith)
    (λ c.
    let e = c.before.before.before in
    (rw priced_read (search (storing, reading)), money_unassociated _ (ap (drop 16) e.before.before.requires.1))) (omega arith) (omega arith)
    (λ c.
    let e = c.before.before.before.before.before.before in
    (rw priced_read (search (storing, reading)), money_unassociated _ (ap (drop 16) e.before.before.requires.1))) (λ c κs. search rules) (omega arith) (omega arith)
    (λ c.
    let z = c.before.before.before in
    let q = z.before.before.before in
    let a = q.before.before in
    let contents = closes_as _ _ _ _ _ _ z.closed-m.ensures z.before.money_at-contents.ensures.0 (λ v. plain (money_figure v)) no_charge in (
      rw priced_read (refused _ _ c.halted-then-m-ne0.ensures c.before.if-m-ne0.true (step _ _ _ _ a.before.before.before.open_at-e.ensures.0 a.before.if-e-ne0.false
          (step _ _ _ _ a.open_at-a.ensures.0 q.if-a-ne0.false (stay _ _ _ _ contents c.before.if-m-ne0.true)))),
      search money_unassociated,
    ))
    (λ c κs. let m = amount c in (m.2, m.3)) (omega arith)
    (λ c. let m = amount c.before.before.before.before in (search (storing, reading) ∙ m.0, money_unassociated _ m.1)) (omega arith)
    (λ c.
    let m = amount (priced c.before.before.before.before) in
    (search (surplus, step, remains) depth 8 fits 4000 ∙ m.0, money_unassociated _ m.1))
    (omega arith) (omega arith) (omega arith) (omega arith) (omega arith) (omega arith)
    (λ c.
    let l = c.before.before.before.before.before.before.before in
    let v = l.before.before.billing_at-b.result.value in
    let w = (priced l).before.before.before.money_at-contents.new.figure in
    let m = amount (priced l) in (
      priced_stored w m.1 _ v.value c.reached.ensures v.given c.before.before.flag.ensures (search (step, shut) depth 8 fits 4000) ∙ m.0,
      priced_free w m.1 _ _,
    )))
