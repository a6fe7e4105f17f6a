-- Each return by the answers that led to it.
use Rattle.prelude.proofs.Prelude.{rules, arith, ◌≡◌, refl, ◌∙◌, replicate}
use Rattle.coding.{specs.Reader.after, specs.Reader.Ans.got, specs.inner.Shown.shown, proofs.Reading.reading, proofs.Reading.step}
use Rattle.read_figures.proofs.Answers.{storing}
use Rattle.trunk_types.specs.{Bodies.extending, Components.no_trunk, Components.lead_by, Components.trunk_by, Components.trunk_error}
use Rattle.trunk_read_fields.proofs.Stores.{zero_spare, bare_body}
use Rattle.trunk_read_frames.specs.inner.Framed.{failure}
use Rattle.trunk_read_frames.proofs.{Frames.error_read, error_at.Statement.statement}
use Rattle.trunk_read_frames.proofs.error_at.Tie as tie

-- what is left to read where the error is read, and what is known there
named : (c : tie.Else-e-ne0) →
    let v = c.before.before in
    let i = v.before.before.before in
    let g = i.before.before.args in
    let e = v.value_at-e.result in
    (shown no_trunk (after ((failure e.value).read g.s.now e.next g.end) (λ x last.
    got (trunk_by (lead_by 3 0 i.identifier_at-i.result.value e.value 0 0) (extending x)) last))
    ≡ shown no_trunk (trunk_error.read g.s.now g.at g.end))
    × (g.front.now ≡ replicate 48 0)
named c = (rw error_read (search (step, refl) depth 8), search)

pub error_at_spec : {M : Type 1} → statement M
error_at_spec =
    tie.close
    (tie.spec (omega arith) (omega arith) (λ c. (rw error_read (search (storing, reading)), search zero_spare)) (omega arith) (omega arith)
    (λ c. (rw error_read (search (storing, reading)), search zero_spare)) (λ c. omega (arith, c.before.before.before.value_at-e.ensures.1.0))
    (λ c κs. search rules) (omega arith)
    (λ c. let m = named c.before.before.before.before.before.before in (search (storing, reading) ∙ m.0, zero_spare m.1)) (omega arith)
    (λ c κs. let x = c.before.before.before.before in zero_spare (named x.before.before.before).1) (omega arith)
    (λ c.
    let k = c.before in
    let x = k.before.before.before.before.before in
    let m = named x.before.before.before in
    (rw (k.keep_lead.ensures.0 _ _, bare_body _ m.1) (search (storing, reading) ∙ m.0), k.keep_lead.ensures.1)))
