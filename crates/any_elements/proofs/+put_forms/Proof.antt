-- The octets left fall.
use Rattle.prelude.proofs.Prelude.{arith, ℕ, ◌-◌, ◌/◌, ◌%◌, ◌<◌, eq-eqb, ne_eqb, Measures}
use Rattle.coding.proofs.{Writing.room_first, Writing.room_rest, Writing.room_head, Writing.room_tail, Writing.wrote_parts, Writing.wrote_both}
use Rattle.coding.specs.Normal.{several_at}
use Rattle.any_elements.specs.inner.Forms.{forms_of}
use Rattle.any_elements.proofs.{Sizes.Spanned, Sizes.goes, Sizes.inner_limit, Puts.Puts, Puts.lent, Puts.lent_part, Puts.span_read, Puts.leaf_puts, Puts.node_inner, Puts.node_puts, Puts.wrote_nothing}
use Rattle.any_elements.proofs.{+put_forms.statement, +put_forms.Tie.close}
use Rattle.any_elements.proofs.put_forms.Kinds as put_forms_kinds
use Rattle.any_elements.proofs.put_forms.Reads as put_forms
use Rattle.any_elements.proofs.+put_forms.Lts-put_forms as put_forms_lts
use Rattle.any_elements.proofs.forms_size.Reads as forms_size_reads
use Rattle.any_elements.proofs.span_at.Reads as span_at_reads
use Rattle.octets.proofs.put_octets.Reads as put_octets_reads
use Rattle.write_elements.proofs.put_lead.Reads as put_lead_reads
use borrow.Fn.{PlainCycle.and, PlainCycle.falls, PlainCycle.is, Kinds.In}

abbrev μ_put_forms : Measures 2 put_forms_kinds.ps ℕ
μ_put_forms κs a = a.1.1.0 - a.1.0

-- the states of a call whose measure is t
module _ (t : ℕ) where
  abbrev Called : put_forms_lts.Claims
  Called = (
    span_at_reads.Asked,
    span_at_reads.Learnt,
    forms_size_reads.Asked,
    forms_size_reads.Learnt,
    put_lead_reads.Asked,
    put_lead_reads.Learnt,
    and 2 put_forms_kinds.ps (falls 2 put_forms_kinds.ps ◌<◌ μ_put_forms t) put_forms.Pre,
    put_forms.Post,
    put_octets_reads.Asked,
    put_octets_reads.Learnt,
  )

  abbrev Given : In 2 put_forms_kinds.ps
  Given = and 2 put_forms_kinds.ps (is 2 put_forms_kinds.ps μ_put_forms t) put_forms.Pre

  abbrev Start : Type 0
  Start = put_forms_lts.Start Called Given put_forms.Post

  abbrev Opened : Type 0
  Opened = put_forms_lts.After-span_at-o Called Given put_forms.Post

  abbrev start : Opened → Start
  start o = o.before.before.before

  element : (o : Opened) → Spanned (start o).args.s.now (start o).args.at (start o).args.end o.span_at-o.result
  element o =
      span_read (record {
        limit = record { octets = λ j. omega (arith, o.before.before.shared_slice_known-1.given j); inside = omega arith; small = omega arith };
        ahead = o.before.if-end-at.false;
      }) (start o).requires.1.1.0 o.span_at-o.ensures

  -- a constructed element whose contents are counted, and a primitive one
  abbrev Counted : Type 0
  Counted = put_forms_lts.After-forms_size-inner Called Given put_forms.Post

  node : (f : Counted) → let o = f.before.before.before in let s = (start o).args.s.now in
      Puts s (start o).args.at (start o).args.end (o.span_at-o.result / 0x40000) f.forms_size-inner.result
      (forms_of (several_at s (o.span_at-o.result % 512) (o.span_at-o.result / 512 % 512)))
  node f =
      let o = f.before.before.before in
      node_puts (element o) (start o).requires.1.1.0 (eq-eqb _ 1 f.before.if-tag-eq1.true) f.forms_size-inner.ensures (start o).requires.1.1.1.0

  abbrev Plain : Type 0
  Plain = put_forms_lts.Else-tag-eq1 Called Given put_forms.Post

  leaf : (b : Plain) → let o = b.before.before in let s = (start o).args.s.now in
      let x = o.span_at-o.result % 512 in let y = o.span_at-o.result / 512 % 512 in
      Puts s (start o).args.at (start o).args.end (o.span_at-o.result / 0x40000) (y - x) (lent s x y)
  leaf b =
      let o = b.before.before in
      leaf_puts (element o) (start o).requires.1.1.0 (ne_eqb _ 1 b.if-tag-eq1.false) (start o).requires.1.1.1.0

pub +put_forms_spec : {M : Type 1} → statement M
+put_forms_spec = close μ_put_forms λ t. put_forms_lts.spec (Called t) _ put_forms.Post
    (λ c. wrote_nothing _ _ _ _ _ c.if-end-at.true)
    (λ c κs. omega arith)
    (λ c. omega (arith, goes (element t c)))
    (λ c. omega arith)
    (λ c κs. omega (arith, goes (element t c.before.before)))
    (λ c κs.
    let f = c.before in
    let n = node t f in
    (omega (arith, n.few), room_first n.parts (start t f.before.before.before).requires.1.1.1.1))
    (λ c κs.
    let p = c.before in
    let f = p.before.before in
    let o = f.before.before.before in
    let n = node t f in
    let g = goes (element t o) in
    let r = room_head _ (room_rest n.parts (start t o).requires.1.1.1.1 p.put_lead-p.ensures) in
    (omega (arith, g), (omega (arith, g), (node_inner (element t o) (start t o).requires.1.1.0 (eq-eqb _ 1 f.before.if-tag-eq1.true), (n.few.1, r)))))
    (λ c κs.
    let q = c.before in
    let p = q.before.before in
    let f = p.before.before in
    let o = f.before.before.before in
    let n = node t f in
    let g = goes (element t o) in
    let r = room_tail q.put_forms-q.ensures (room_rest n.parts (start t o).requires.1.1.1.1 p.put_lead-p.ensures) in
    (omega (arith, g), ((start t o).requires.1.0, (n.rest, (n.few.2, r)))))
    (λ c.
    let q = c.before.before in
    let p = q.before.before in
    wrote_parts (node t p.before.before).parts p.put_lead-p.ensures (wrote_both q.put_forms-q.ensures c.put_forms.ensures))
    (λ c κs.
    let n = leaf t c.before in
    (omega (arith, n.few), room_first n.parts (start t c.before.before.before).requires.1.1.1.1))
    (λ c. omega (arith, goes (element t c.before.before.before.before.before)))
    (λ c. omega (arith, goes (element t c.before.before.before.before.before)))
    (λ c. omega (arith, goes (element t c.before.before.before.before.before)))
    (λ c κs.
    let p = c.before.before in
    let b = p.before.before in
    let o = b.before.before in
    let l = lent_part (start t o).args.s.now (o.span_at-o.result % 512) (o.span_at-o.result / 512 % 512) (inner_limit (element t o)).inside in
    (l.0, room_head _ (room_rest (leaf t b).parts (start t o).requires.1.1.1.1 p.put_lead-p-2.ensures)))
    (λ c κs.
    let q = c.before in
    let p = q.before.before.before in
    let b = p.before.before in
    let o = b.before.before in
    let n = leaf t b in
    let g = goes (element t o) in
    let r = room_tail q.put_octets-q.ensures (room_rest n.parts (start t o).requires.1.1.1.1 p.put_lead-p-2.ensures) in
    (omega (arith, g), ((start t o).requires.1.0, (n.rest, (n.few.2, r)))))
    (λ c.
    let q = c.before.before in
    let p = q.before.before.before in
    wrote_parts (leaf t p.before.before).parts p.put_lead-p-2.ensures (wrote_both q.put_octets-q.ensures c.put_forms-2.ensures))
