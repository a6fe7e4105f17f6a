-- Each return by the answers that led to it.
use Rattle.prelude.proofs.Prelude.{arith, rules, true, ◌≡◌, refl, ◌∙◌, replicate}
use Rattle.coding.{specs.Reader.after, specs.Reader.Ans.got, specs.inner.Shown.shown, proofs.Reading.reading}
use Rattle.types.specs.{Charges.association, Arguments.plain, Arguments.no_charge, Arguments.associated, Arguments.with_association, Stored.figure_in}
use Rattle.read_figures.proofs.Answers.{hands, storing, goes}
use Rattle.read_charges.proofs.Stores.{association_stored}
use Rattle.trunk_types.specs.Bodies.{figures}
use Rattle.trunk_read_charges.proofs.{Steps.final_read, final_at.Statement.statement}
use Rattle.trunk_read_charges.proofs.final_at.Tie as tie

-- what is left to read where the figure is read
followed : (c : tie.Else-u-ne0) →
    let f = c.before.before in
    let g = f.before.before.before.args in
    shown no_charge (after ((association true).read g.s.now f.figure_at-u.result.next g.end) (λ a last.
    got (associated a (plain (figure_in f.figure_at-u.new.figure))) last))
    ≡ shown no_charge ((with_association true (figures 7)).read g.s.now g.at g.end)
followed c = rw final_read (search (goes, refl) depth 8)

pub final_at_spec : {M : Type 1} → statement M
final_at_spec =
    tie.close
    (tie.spec (λ c κs. search rules) (omega arith) (λ c. rw final_read (search (storing, reading)))
    (λ c κs.
    let f = c.before.before.before in
    (f.before.before.before.requires.0, f.figure_at-u.ensures.1))
    (λ c.
    let a = hands _ (λ v. associated v (plain (figure_in _))) _ _ _ c.association_at.ensures.0 in
    association_stored _ (replicate 32 0) (replicate 192 0) _ c.association_at.ensures.1 a ∙ followed c.before.before))
