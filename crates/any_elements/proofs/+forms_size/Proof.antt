-- The octets left fall.
use Rattle.prelude.proofs.Prelude.{arith, ℕ, ◌-◌, ◌<◌, eq-eqb, ne_eqb, Measures}
use Rattle.any_elements.proofs.Sizes.{Within, Spanned, sized_none, fault_sized, span_got, goes, sized_small, node_fault, node_joined, leaf_joined}
use Rattle.any_elements.proofs.{+forms_size.statement, +forms_size.Tie.close}
use Rattle.any_elements.proofs.forms_size.Kinds as forms_size_kinds
use Rattle.any_elements.proofs.forms_size.Reads as forms_size
use Rattle.any_elements.proofs.+forms_size.Lts-forms_size as forms_size_lts
use Rattle.any_elements.proofs.joined.Reads as joined_reads
use Rattle.any_elements.proofs.span_at.Reads as span_at_reads
use borrow.Fn.{PlainCycle.and, PlainCycle.falls, PlainCycle.is, Kinds.In}

abbrev μ_forms_size : Measures 1 forms_size_kinds.ps ℕ
μ_forms_size κs a = a.1.1.0 - a.1.0

-- the states of a call whose measure is t
module _ (t : ℕ) where
  abbrev Called : forms_size_lts.Claims
  Called = (
    span_at_reads.Asked,
    span_at_reads.Learnt,
    and 1 forms_size_kinds.ps (falls 1 forms_size_kinds.ps ◌<◌ μ_forms_size t) forms_size.Pre,
    forms_size.Post,
    joined_reads.Asked,
    joined_reads.Learnt,
  )

  abbrev Given : In 1 forms_size_kinds.ps
  Given = and 1 forms_size_kinds.ps (is 1 forms_size_kinds.ps μ_forms_size t) forms_size.Pre

  abbrev Start : Type 0
  Start = forms_size_lts.Start Called Given forms_size.Post

  abbrev Told : Type 0
  Told = forms_size_lts.After-span_at-o Called Given forms_size.Post

  abbrev Opened : Type 0
  Opened = forms_size_lts.Else-o-lt-SPANS Called Given forms_size.Post

  abbrev start : Told → Start
  start o = o.before.before.before

  within : (o : Told) → Within (start o).args.s.now (start o).args.at (start o).args.end
  within o = record {
    limit = record { octets = λ j. omega (arith, o.before.before.shared_slice_known-1.given j); inside = omega arith; small = omega arith };
    ahead = o.before.if-end-at.false;
  }

  element : (e : Opened) → Spanned (start e.before).args.s.now (start e.before).args.at (start e.before).args.end e.before.span_at-o.result
  element e = span_got (within e.before) e.before.span_at-o.ensures e.if-o-lt-SPANS.false

pub +forms_size_spec : {M : Type 1} → statement M
+forms_size_spec = close μ_forms_size λ t. forms_size_lts.spec (Called t) _ forms_size.Post
    (λ c. sized_none _ _ _ c.if-end-at.true)
    (λ c κs. omega arith)
    (λ c. let o = c.before in fault_sized (within t o) o.span_at-o.ensures c.if-o-lt-SPANS.true)
    (λ c. omega (arith, goes (element t c)))
    (λ c. omega arith)
    (λ c κs. let g = goes (element t c.before.before) in (omega (arith, g), omega (arith, g)))
    (λ c.
    let f = c.before in
    node_fault (element t f.before.before.before) (eq-eqb _ 1 f.before.if-s-at-eq1.true) f.forms_size-inner.ensures c.if-inner-ge-FAULTS.true)
    (λ c κs. let n = c.before.before in let g = goes (element t n.before.before) in (omega (arith, g), omega arith))
    (λ c κs.
    let e = element t c.before.before.before.before.before in
    (omega arith, sized_small e.place.limit (goes e).3 c.forms_size-rest.ensures))
    (λ c.
    let r = c.before in
    let f = r.before.before in
    let e = element t f.before.before.before in
    let node = node_joined e (eq-eqb _ 1 f.before.if-s-at-eq1.true) f.forms_size-inner.ensures r.before.if-inner-ge-FAULTS.false r.forms_size-rest.ensures in
    omega (arith, c.joined.ensures, node))
    (λ c κs. let g = goes (element t c.before.before) in (omega (arith, g), omega arith))
    (λ c κs.
    let e = element t c.before.before.before in
    let g = goes e in
    (omega (arith, g, e.place.limit.small), sized_small e.place.limit g.3 c.forms_size-more.ensures))
    (λ c.
    let r = c.before in
    let n = r.before in
    let leaf = leaf_joined (element t n.before.before) (ne_eqb _ 1 n.if-s-at-eq1.false) r.forms_size-more.ensures in
    omega (arith, c.joined-2.ensures, leaf))
