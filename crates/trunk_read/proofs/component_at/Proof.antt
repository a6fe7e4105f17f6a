-- Each return by the answers that led to it.
use Rattle.prelude.proofs.Prelude.{arith, rules, ◌≡◌, refl, ◌∙◌, length, get_or}
use Rattle.coding.{specs.Reader.after, specs.Reader.closed, specs.inner.Shown.shown, proofs.Reading.step, proofs.Reading.stay}
use Rattle.read_figures.proofs.Answers.{refused, closes}
use Rattle.trunk_types.specs.Components.{no_trunk, trunk_frame, trunk_component}
use Rattle.trunk_read_fields.proofs.Stores.{zero_spare}
use Rattle.trunk_read.proofs.{Frames.component_read, component_at.Statement.statement}
use Rattle.trunk_read.proofs.component_at.Tie as tie

-- what is left to read where the frame is read
entered : (c : tie.After-frame_at-f) →
    let b = c.before.before.before.before.before in
    let e = b.before.before.before.before in
    let s = e.before.before.args.s.now in
    let x = e.enter-e.result in
    shown no_trunk (after ((trunk_frame (get_or s 0 0)).read s x.value.start x.value.stop) (λ v last. closed v last x.value.stop x.next))
    ≡ shown no_trunk (trunk_component.read s 0 (length s))
entered c =
    let b = c.before.before.before.before.before in
    let g = b.before.before in
    rw component_read (step _ _ _ _ g.before.before.enter-e.ensures.0 g.if-e-ne0.false refl)

pub component_at_spec : {M : Type 1} → statement M
component_at_spec =
    tie.close
    (tie.spec (search rules) (search rules) (λ c. (rw component_read (search (refused, stay)), search zero_spare))
    (λ c. let g = c.before in g.before.before.enter-e.ensures.1.0 g.if-e-ne0.false)
    (λ c κs.
    let b = c.before.before.before.before in
    let e = b.before.before.before.before in
    ((e.enter-e.ensures.1.1, omega (arith, e.enter-e.ensures.1.1)), e.before.before.requires.1)) (search rules)
    (λ c. let f = c.before in (closes _ _ _ _ _ _ c.closed.ensures f.frame_at-f.ensures.0 ∙ entered f, f.frame_at-f.ensures.1)))
