-- Each return by the answers that led to it.
use Rattle.prelude.proofs.Prelude.{rules, arith, ◌≡◌, refl, ◌∙◌}
use Rattle.coding.{specs.Reader.after, specs.Reader.blamed, specs.Reader.closed, specs.inner.Shown.shown, proofs.Reading.step, proofs.Reading.stay, proofs.Reading.shut, proofs.Reading.remains}
use Rattle.types.specs.Frames.{in_argument}
use Rattle.read_heads.proofs.Codes.{has_below}
use Rattle.read_figures.proofs.Answers.{refused, surplus}
use Rattle.trunk_types.specs.{Bodies.result_of, Components.answerable, Components.no_trunk, Components.lead_by, Components.trunk_by, Components.trunk_result}
use Rattle.trunk_read_fields.proofs.Stores.{zero_spare}
use Rattle.trunk_read_frames.proofs.Marked.{refused_in_lem, goes_under}
use Rattle.trunk_read.proofs.{Frames.answer_read, Frames.arrived_as, answer_at.Statement.statement}
use Rattle.trunk_read.proofs.answer_at.Tie as tie

-- what is left to read where the operation is read
led : (c : tie.Else-o-ne0) →
    let o = c.before.before in
    let x = o.before.before.before in
    let i = x.before.before.before in
    let g = i.before.before.args in
    let w = x.open_at-e.result in
    let v = o.value_at-o.result in
    shown no_trunk (after (blamed in_argument ((result_of v.value).read g.s.now v.next w.value.stop)) (λ b last.
    closed (trunk_by (lead_by 2 0 i.identifier_at-i.result.value 0 v.value 0) b) last w.value.stop w.next))
    ≡ shown no_trunk (trunk_result.read g.s.now g.at g.end)
led c = rw answer_read (search (step, refl) depth 8)

-- that place where the result is read, and the identifier's before it
abbrev known : tie.After-result_at-b → tie.Else-o-ne0
known b = b.before.before.before.before.before.before.before

abbrev named : tie.Else-o-ne0 → tie.After-identifier_at-i
named c = c.before.before.before.before.before.before.before.before

pub answer_at_spec : {M : Type 1} → statement M
answer_at_spec =
    tie.close
    (tie.spec (search rules) (search rules) (λ c. (rw answer_read (search (refused, stay)), search zero_spare)) (search rules) (search rules)
    (λ c. (rw answer_read (search (refused, step, stay)), search zero_spare)) (search rules) (search rules)
    (λ c.
    let x = c.before.before.before.before.before.before in
    let i = x.before.before.before in
    (rw answer_read (search (refused, step, stay) depth 8), zero_spare i.before.before.requires.1.front_bare))
    (λ c. let f = c.before in omega (arith, has_below 256 answerable _ refl (f.before.before.value_at-o.ensures.1.1 f.if-o-ne0.false)))
    (λ c κs.
    let f = c.before.before.before.before.before.before in
    let x = f.before.before.before.before.before in
    let p = (named f).before.before.requires in
    (omega (arith, x.open_at-e.ensures.1.1, p.0), p.1)) (search rules) (search rules)
    (λ c.
    let t = c.before.before in
    let b = t.before.before in (
      refused_in_lem _ _ _ _ _ c.halted-then-b-ne0.ensures c.before.inner.ensures t.if-b-ne0.true b.result_at-b.ensures.0 ∙ led (known b),
      b.result_at-b.ensures.1,
    )) (search rules)
    (λ c.
    let h = c.before.before.before in
    let b = h.before.before in (
      surplus _ _ c.halted-then-b-stop.ensures refl
          (goes_under _ _ _ _ in_argument _ b.result_at-b.ensures.0 h.if-b-ne0.false (remains _ _ _ _ _ c.before.if-b-stop.true)) ∙ led (known b),
      b.result_at-b.ensures.1,
    ))
    (λ c. let b = c.before.before.before.before.before in omega (arith, (named (known b)).identifier_at-i.ensures.1))
    (λ c κs. c.before.before.before.before.before.before.result_at-b.ensures.1) (search rules)
    (λ c.
    let k = c.before in
    let n = k.before.before.before in
    let h = n.before.before in
    let b = h.before.before in (
      arrived_as _ _ c.reached.ensures (k.keep_lead.ensures.0 _ _)
          (goes_under _ _ _ _ in_argument _ b.result_at-b.ensures.0 h.if-b-ne0.false (shut _ _ _ _ _ n.if-b-stop.false))
          ∙ led (known b),
      k.keep_lead.ensures.1,
    )))
