-- The money that was stored, taken out again.
use Rattle.prelude.proofs.Prelude.{ap, ◌∙◌, rules}
use Rattle.coding.{specs.Reader.Ans.got, specs.inner.Shown.shown, proofs.Reading.stay, proofs.Reading.gives}
use Rattle.types.specs.Charges.{no_money}
use Rattle.read_figures.proofs.Answers.{goes, after_same}
use Rattle.read_rate.proofs.money_at.Statement.{statement}
use Rattle.read_rate.proofs.money_at.Tie as tie

pub money_at_spec : {M : Type 1} → statement M
money_at_spec =
    tie.close
    (tie.spec (λ c κs. search rules)
    (λ c. let m = c.money_at-m in stay _ got _ _ m.ensures.0 c.if-m-ne0.true ∙ ap (shown no_money) (after_same _)) (λ c κs. search rules)
    (λ c.
    let d = c.before.before in
    let m = d.money_at-m in
    goes _ got _ _ _ m.ensures.0 d.if-m-ne0.false (rw c.money_of-value.ensures (gives _ _ _)) ∙ ap (shown no_money) (after_same _)))
