-- Each return by the answers that led to it.
use Rattle.prelude.proofs.Prelude.{rules, arith, ◌≡◌, refl, ◌∙◌}
use Rattle.coding.{specs.Reader.after, specs.Reader.blamed, specs.Reader.Ans.got, specs.inner.Shown.shown, proofs.Reading.step, proofs.Reading.stay, proofs.Reading.gives}
use Rattle.types.specs.Frames.{in_argument}
use Rattle.read_heads.proofs.Codes.{has_below}
use Rattle.read_figures.proofs.Answers.{refused}
use Rattle.trunk_types.specs.{Bodies.argument_of, Components.trunk_operations, Components.no_trunk, Components.lead_by, Components.trunk_by, Components.trunk_invoke}
use Rattle.trunk_read_fields.proofs.Stores.{zero_spare}
use Rattle.trunk_read_frames.proofs.Marked.{refused_in_lem, goes_under}
use Rattle.trunk_read.proofs.{Frames.invoke_read, Frames.arrived_as, invoke_at.Statement.statement}
use Rattle.trunk_read.proofs.invoke_at.Tie as tie

-- what is left to read where the operation is read
led : (c : tie.Else-o-ne0) →
    let o = c.before.before in
    let i = o.before.before.before in
    let g = i.before.before.args in
    let v = o.value_at-o.result in
    shown no_trunk (after (blamed in_argument ((argument_of v.value).read g.s.now v.next g.end)) (λ b last.
    got (trunk_by (lead_by 1 0 i.identifier_at-i.result.value 0 v.value 0) b) last))
    ≡ shown no_trunk (trunk_invoke.read g.s.now g.at g.end)
led c = rw invoke_read (search (step, refl) depth 8)

-- that place where the argument is read
abbrev known : tie.After-argument_at-b → tie.Else-o-ne0
known b = b.before.before.before.before.before.before.before

pub invoke_at_spec : {M : Type 1} → statement M
invoke_at_spec =
    tie.close
    (tie.spec (search rules) (search rules) (λ c. (rw invoke_read (search (refused, stay)), search zero_spare)) (search rules) (search rules)
    (λ c. (rw invoke_read (search (refused, step, stay)), search zero_spare))
    (λ c. let f = c.before in omega (arith, has_below 256 trunk_operations _ refl (f.before.before.value_at-o.ensures.1.1 f.if-o-ne0.false)))
    (λ c κs.
    let f = c.before.before.before.before.before.before in
    let o = f.before.before in
    let p = o.before.before.before.before.before.requires in
    ((p.0, o.value_at-o.ensures.1.1 f.if-o-ne0.false), p.1)) (search rules) (search rules)
    (λ c.
    let t = c.before.before in
    let b = t.before.before in (
      refused_in_lem _ _ _ _ _ c.halted-then-b-ne0.ensures c.before.inner.ensures t.if-b-ne0.true b.argument_at-b.ensures.0 ∙ led (known b),
      b.argument_at-b.ensures.1,
    )) (search rules)
    (λ c κs. c.before.before.before.before.argument_at-b.ensures.1) (search rules)
    (λ c.
    let k = c.before in
    let g = k.before.before.before in
    let b = g.before.before in (
      arrived_as _ _ c.reached.ensures (k.keep_lead.ensures.0 _ _)
          (goes_under _ _ _ _ in_argument _ b.argument_at-b.ensures.0 g.if-b-ne0.false (gives _ _ _)) ∙ led (known b),
      k.keep_lead.ensures.1,
    )))
