-- Each return by the answers that led to it.
use Rattle.prelude.proofs.Prelude.{arith, rules, ◌≡◌, refl, ◌∙◌, replicate}
use Rattle.coding.{specs.Reader.after, specs.Reader.closed, specs.inner.Shown.shown, proofs.Reading.reading, proofs.Reading.step}
use Rattle.types.specs.Stored.{stored_charge}
use Rattle.read_lengths.specs.inner.Bounds.{Bounded}
use Rattle.read_figures.proofs.Answers.{storing, goes, closes_as}
use Rattle.trunk_types.specs.{Extensions.any_extension, Bodies.no_body, Bodies.with_extension, Bodies.extended, Stored.Spare}
use Rattle.trunk_read_fields.{specs.inner.Fields.inner_in, proofs.Stores.zero_spare}
use Rattle.trunk_read_bodies.specs.inner.Bodied.{inner_of}
use Rattle.trunk_read_bodies.proofs.{Stores.extended_read, Stores.body_stored, extended_at.Statement.statement}
use Rattle.trunk_read_bodies.proofs.extended_at.Tie as tie

-- what is left to read where the body is read, and what is known there
bodied : (c : tie.Else-b-ne0) →
    let b = c.before.before in
    let o = b.before.before.before.before.before.before.before in
    let g = o.before.before.args in
    let e = o.open_at-e.result in
    let w = b.inner_at-b.new in
    (shown no_body (after (any_extension.read g.s.now b.inner_at-b.result.next e.value.stop) (λ y n.
    closed (with_extension y (inner_in w.front (stored_charge w.figure w.numbers w.rows))) n e.value.stop e.next))
    ≡ shown no_body ((extended (inner_of g.form)).read g.s.now g.at g.end))
    × Spare w.front × Bounded g.s.now e.value.stop × (g.extension.now ≡ replicate 244 0)
bodied c =
    let b = c.before.before in
    let o = b.before.before.before.before.before.before.before in
    let p = o.before.before.requires in
    (rw extended_read (search (goes, step, refl) depth 8), b.inner_at-b.ensures.1, omega (arith, o.open_at-e.ensures.1.1, p.0), p.1.extension_bare)

pub extended_at_spec : {M : Type 1} → statement M
extended_at_spec =
    tie.close
    (tie.spec (omega arith) (omega arith) (λ c. (rw extended_read (search (storing, reading)), search zero_spare)) (λ c κs. search rules) (omega arith)
    (λ c. (rw extended_read (search (storing, reading) depth 8), search)) (λ c κs. let m = bodied c.before in (m.2, m.3)) (omega arith)
    (λ c.
    let x = c.before in
    let m = bodied x.before.before in
    (rw body_stored (closes_as _ _ _ _ _ _ c.closed.ensures x.extension_if-x.ensures (λ y. with_extension y (inner_in _ (stored_charge _ _ _))) no_body ∙ m.0), m.1)))
