-- Where a component was found, its answer is that of its octets by themselves, or 17.
use Rattle.prelude.proofs.Prelude.{sym, ◌∙◌, eq-eqb, ne_eqb}
use Rattle.coding.{specs.Reader.part, proofs.Basic.picked, proofs.Basic.unpicked}
use Rattle.element_pass.specs.Pass.{lines}
use Rattle.element_pass.proofs.{Order.pass_none, Order.pass_some}
use Rattle.element_pass.proofs.next_into.Goals as goal
use Rattle.element_pass.proofs.next_into.Goals.{then-after-ne0+else-octets, else-after-ne0}

pub returns-then-octets : goal.returns-then-octets
unfolding part
returns-then-octets c =
    pass_some lines _ _ c.find-f.result _ c.find-f.ensures.value c.if-after-ne0.true
    (c.read_into-answer.ensures ∙ sym (picked _ _ (eq-eqb _ _ c.if-octets.true)))

pub returns : goal.returns
returns c =
    c.without.ensures
    ∙ elim c.if-after-ne0.branch [
      | then-after-ne0+else-octets w ↦ rw w.number-is (pass_some lines _ _ c.find-f.result _ c.find-f.ensures.value w.if-after-ne0.true
          (sym (unpicked _ _ (ne_eqb _ _ w.if-octets.false))))
      | else-after-ne0 w ↦ rw (w.number-is, w.if-after-ne0.false) (pass_none lines _ _ c.find-f.result c.find-f.ensures.value w.if-after-ne0.false)
    ]
