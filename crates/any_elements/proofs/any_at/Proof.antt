-- Each return by the numbers that led to it.
use Rattle.prelude.proofs.Prelude.{arith, rules, eq-eqb, ne_eqb}
use Rattle.any_elements.proofs.{Sizes.fault_told, Sizes.Within, Sizes.Spanned, Sizes.span_fault, Sizes.span_got, Sizes.goes}
use Rattle.any_elements.proofs.{Passes.passes_none, Passes.passes_fault, Passes.passes_leaf, Passes.passes_in, Passes.passes_node, any_at.Statement.statement}
use Rattle.any_elements.proofs.any_at.Tie as tie

abbrev start : tie.After-span_at-o → tie.Start
start o = o.before.before.before

within : (o : tie.After-span_at-o) → Within (start o).args.s.now (start o).args.at (start o).args.end
within o = record {
  limit = record { octets = λ j. omega (arith, o.before.before.shared_slice_known-1.given j); inside = omega arith; small = omega arith };
  ahead = o.before.if-end-at.false;
}

element : (e : tie.Else-o-lt-SPANS) → Spanned (start e.before).args.s.now (start e.before).args.at (start e.before).args.end e.before.span_at-o.result
element e = span_got (within e.before) e.before.span_at-o.ensures e.if-o-lt-SPANS.false

pub any_at_spec : {M : Type 1} → statement M
any_at_spec =
    tie.close
    (tie.spec (λ c κs. search rules) (λ c. rw c.halted.ensures (passes_none _ _ _ c.before.if-end-at.true)) (λ c κs. search rules)
    (λ c κs.
    let o = c.before in
    let f = span_fault (within o) o.span_at-o.ensures c.if-o-lt-SPANS.true in
    omega (arith, f.3, (fault_told f.0 f.1 f.4 f.5).0))
    (λ c. let o = c.before.before in rw c.faulted.ensures (passes_fault (within o) o.span_at-o.ensures c.before.if-o-lt-SPANS.true))
    (λ c. search rules)
    (λ c κs. omega (arith, goes (element c.before.before)))
    (λ c κs. search rules)
    (λ c.
    let f = c.before.before in
    let t = f.before in
    rw c.faulted-then-inner-ge-FAULTS.ensures (passes_in (element t.before.before) (eq-eqb _ 1 t.if-s-at-eq1.true) f.forms_size-inner.ensures c.before.if-inner-ge-FAULTS.true))
    (λ c κs. search rules)
    (λ c.
    let f = c.before.before in
    let t = f.before in
    rw c.reached.ensures (passes_node (element t.before.before) (eq-eqb _ 1 t.if-s-at-eq1.true) f.forms_size-inner.ensures c.before.if-inner-ge-FAULTS.false))
    (λ c κs. search rules)
    (λ c. let t = c.before in rw c.reached-2.ensures (passes_leaf (element t.before.before) (ne_eqb _ 1 t.if-s-at-eq1.false))))
