-- By the bit of the tag.
use Rattle.prelude.proofs.Prelude.{◌≡◌, rules, sym, get_or, ne_eqb}
use Rattle.coding.{specs.Reader.opened, specs.inner.Shown.shown}
use Rattle.any_elements.proofs.{Sizes.span_none, Sizes.leaf_opens, Sizes.span_inside, Sizes.span_is, span_at.Statement.statement}
use Rattle.any_elements.proofs.span_at.Tie as tie

abbrev start : tie.Else-tag-eq0 → tie.Start
start i = i.before.before.before

-- a primitive element is opened as one whose length has a number
numbered : (o : tie.After-numbered_at-o) → let v = (start o.before.before).args in let r = o.numbered_at-o.result in
    (r.fault, r.place, r.value, r.next) ≡ shown (record { start = 0; stop = 0 }) (opened (get_or v.s.now v.at 0) v.s.now v.at v.end)
numbered o =
    let v = start o.before.before in
    rw (sym (leaf_opens v.args.s.now v.args.at v.args.end v.requires.1 (ne_eqb _ 1 o.before.if-tag-eq1.false))) at o.numbered_at-o.ensures.0

pub span_at_spec : {M : Type 1} → statement M
span_at_spec =
    tie.close
    (tie.spec (λ c. search rules) (λ c. search rules) (λ c. search rules) (λ c. search rules)
    (λ c. let v = c.before.before.before in span_none v.args.s.now _ _ v.requires.1 c.if-tag-eq0.true)
    (λ c κs. search rules)
    (λ c κs.
    let i = c.before.before in
    span_inside (start i).args.s.now _ _ (start i).requires.1 i.if-tag-eq0.false _ c.open_at-o.ensures.0 (start i).requires.0.1 c.open_at-o.ensures.1)
    (λ c. let o = c.before in let i = o.before.before in span_is _ _ _ (start i).requires.1 i.if-tag-eq0.false _ o.open_at-o.ensures.0 c.span_of.ensures)
    (λ c. search rules) (λ c κs. search rules)
    (λ c κs.
    let i = c.before.before in
    span_inside (start i).args.s.now _ _ (start i).requires.1 i.if-tag-eq0.false _ (numbered c) (start i).requires.0.1 c.numbered_at-o.ensures.1)
    (λ c. let o = c.before in let i = o.before.before in span_is _ _ _ (start i).requires.1 i.if-tag-eq0.false _ (numbered o) c.span_of-2.ensures))
