use Rattle.prelude.proofs.Prelude.{◌≡◌, sym, ap, ◌∙◌, rules}
use Rattle.write_tests.{specs.inner.Fine.figure_fine, proofs.Valid.charge_fine_lem, proofs.Truth.told, proofs.Truth.told_no}
use Rattle.write_charges.proofs.{Cited.tests, charge_fine.Statement.statement}
use Rattle.write_charges.proofs.charge_fine.Tie as tie

-- the figure is the one that lies in the octets
tested : (c : tie.After-parts_fine) → let a = c.before.args in c.parts_fine.result ≡ figure_fine a.operation a.f
tested c = c.parts_fine.ensures ∙ ap (figure_fine c.before.args.operation) (sym c.before.requires.1.0)

pub charge_fine_spec : {M : Type 1} → statement M
charge_fine_spec = tie.close
    (tie.spec (λ c κs. search rules) (λ c κs. search rules) (λ c. search (tests, charge_fine_lem, told, tested c.before.before))
    (λ c. let s = c.before.before in told_no _ _ _ (tested c.before) c.if-parts_fine.false ∙ sym (charge_fine_lem _ s.requires.0.0 s.requires.0.1 _)))
