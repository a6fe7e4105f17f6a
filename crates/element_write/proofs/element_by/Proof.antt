use Rattle.prelude.proofs.Prelude.{rules, sym, ◌∙◌, not-true, not-false}
use Rattle.element_write.proofs.{Left.other_profile, Left.known_profile, element_by.Statement.statement}
use Rattle.element_write.proofs.element_by.Tie as tie

returns : tie.Need-returns-then-not-is_profile
returns c = other_profile _ _ _ (sym c.before.before.is_profile.ensures ∙ c.before.if-not-is_profile.true) c.refuse.ensures

returns-2 : tie.Need-returns
returns-2 c =
    let e = c.before.before in
    let o = e.before.before in
    known_profile _ _ _ (sym o.before.is_profile.ensures ∙ o.if-not-is_profile.false) e.element_as.ensures

pub element_by_spec : {M : Type 1} → statement M
element_by_spec = tie.close (tie.spec (search rules) (search rules) returns (search rules) (search rules) returns-2)
