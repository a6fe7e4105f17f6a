use Rattle.prelude.proofs.Prelude.{rules, sym, ap, ◌∙◌}
use Rattle.element.specs.declared.Starts.{Starts}
use Rattle.element_pass.proofs.{Order.find_malformed, Going.along_first, first.Statement.statement}
use Rattle.element_pass.proofs.first.Tie as tie

pub first_spec : {M : Type 1} → statement M
first_spec =
    tie.close
    (tie.spec (search rules)
    (λ c κs. let t = c.before.before.element-tiles.ensures.0 in along_first _ (sym (ap (λ (x : Starts). x.number) t) ∙ c.if-tiles-eq0.true)) (λ c. c.onward.ensures) (λ c κs. search rules)
    (λ c. let e = c.before in let t = e.before.before.element-tiles.ensures.0 in
    c.found_as.ensures ∙ sym (find_malformed _ _ (λ n. e.if-tiles-eq0.false (ap (λ (x : Starts). x.number) t ∙ n)))))
