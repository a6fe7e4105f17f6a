use Rattle.prelude.proofs.Prelude.{refl, sym, ap, ◌∙◌, arith, ◌≡◌}
use Rattle.element.specs.{declared.Starts.Starts, Element.element_of}
use Rattle.element_pass.proofs.{Order.element_long, Order.find_malformed, Order.find_end_lem, Order.find_none, Order.find_some, find.Statement.statement}
use Rattle.element_pass.proofs.find.Tie as tie

fine : (c : tie.Else-cut-ne0) → let s = c.before.before.before.before in (element_of s.args.octets.now).number ≡ 0
fine c = sym (ap (λ (x : Starts). x.number) c.before.before.cut_at-cut.ensures.0) ∙ c.if-cut-ne0.false

returns-4 : tie.Need-returns
returns-4 c =
    let e = c.before in
    let d = e.before.before in
    let t = d.before.before.before.cut_at-cut.ensures in
    let f = find_some _ _ (fine d.before) d.if-place-octets.false _ (sym t.1) e.if-cut-eq0.false in
    rw c.found_as-2.ensures (sym f.2, λ n. (f.0, f.1, element_long _ (fine d.before)))

pub find_spec : {M : Type 1} → statement M
find_spec =
    tie.close
    (tie.spec (omega arith) (λ c κs. omega arith)
    (λ c. let i = c.before in let t = i.before.before.cut_at-cut.ensures.0 in
    rw c.found_as.ensures (sym (find_malformed _ _ (λ e. i.if-cut-ne0.true (ap (λ (x : Starts). x.number) t ∙ e))), λ n. absurd (n refl)))
    (λ c κs. omega arith)
    (λ c. let i = c.before in rw c.found_as-then-place-octets.ensures (sym (find_end_lem _ _ (fine i.before) i.if-place-octets.true), λ n. absurd (n refl))) (λ c κs. omega arith)
    (λ c. let i = c.before in let d = i.before.before in let t = d.before.before.before.cut_at-cut.ensures.1 in
    rw c.found_as-then-cut-eq0.ensures (sym (find_none _ _ (fine d.before) d.if-place-octets.false (sym t ∙ i.if-cut-eq0.true)), λ n. absurd (n refl)))
    (λ c κs. omega arith) returns-4)
