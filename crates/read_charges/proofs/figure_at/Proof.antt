-- Each return by the answers that led to it.
use Rattle.prelude.proofs.Prelude.{rules, arith, ◌≡◌, refl, sym, ◌∙◌}
use Rattle.coding.{specs.inner.Shown.shown, proofs.Reading.{reading, step}}
use Rattle.types.specs.{Arguments.{no_charge, associated}, Stored.stored_charge}
use Rattle.read_figures.{specs.inner.Beside.Unassociated, proofs.Answers.{storing, goes, closes_as}}
use Rattle.read_charges.specs.inner.Readers.{figure_of}
use Rattle.read_lengths.{specs.inner.Bounds.Bounded, proofs.Answers.passed}
use Rattle.read_charges.proofs.{Stores.none_stored, Stores.association_stored, Steps.ended, Steps.parties, Steps.parties_none, Steps.figure_read, figure_at.Statement.statement}
use Rattle.read_charges.proofs.figure_at.Tie as tie

-- what is left to read of 35 and 36 where the charge is read, and what is known there
settled : (c : tie.Else-is_subtotal) →
    let p = c.before.before.before.before in
    let e = p.before.before.before.before.before.before in
    let g = e.before.before.args in
    let w = p.settled_at-u.new in
    let o = e.frame_at-e.result in
    (shown no_charge (parties (stored_charge w.figure w.numbers w.rows) g.s.now p.settled_at-u.result.next o.value.stop o.next)
    ≡ shown no_charge ((figure_of g.operation).read g.s.now g.at g.end))
    × Unassociated w.figure × Bounded g.s.now o.value.stop
settled c =
    let e = c.before.before.before.before.before.before.before.before.before.before in
    let b = e.before.before.requires.0 in
    (rw figure_read (search (passed, goes, step, refl) depth 8), search, (omega (arith, b.0), omega (arith, b.1)))

pub figure_at_spec : {M : Type 1} → statement M
figure_at_spec =
    tie.close
    (tie.spec (λ c. omega arith) (λ c. omega arith) (λ c. rw figure_read (search (storing, reading))) (λ c κs. search rules) (λ c. omega arith)
    (λ c. rw figure_read (search (storing, reading) depth 8)) (λ c. omega arith)
    (λ c.
    let p = c.before.before.before.before in
    let q = p.before.before.before in
    let e = q.before.before.before in
    rw figure_read
    (step _ _ _ _ e.frame_at-e.ensures.0 q.before.if-e-ne0.false
    (ended _ _ _ (λ x n. rw (sym c.before.is_subtotal.ensures ∙ c.if-is_subtotal.true)) p.settled_at-u.ensures.0)))
    (λ c. omega arith)
    (λ c.
    let k = c.before.before.before in
    let m = settled k in
    none_stored _ _ _ c.reached.ensures m.1 (parties_none (stored_charge _ _ _) _ _ _ _ c.before.if-u-stop.true) ∙ m.0)
    (λ c κs. let m = settled c.before.before.before in (m.2, m.1)) (λ c. omega arith)
    (λ c.
    let a = c.before in
    let k = a.before.before.before in
    let m = settled k.before in
    let parts = closes_as _ _ _ _ _ _ c.closed.ensures a.association_at-a.ensures.0 (λ v. associated v (stored_charge _ _ _)) no_charge in
    association_stored _ _ _ _ a.association_at-a.ensures.1 parts ∙ m.0))
