use Rattle.prelude.proofs.Prelude.{sym, ap, ◌∙◌, true, ◌&&◌, get_or, eq-eqb}
use Rattle.coding.proofs.{Tests.tests, Basic.picked}
use Rattle.types.specs.{Charges.money, Stored.money_in}
use Rattle.write_tests.proofs.Truth.{answered, test_no, test_yes}
use Rattle.trunk_write_tests.specs.inner.Masks.{masked_fits, billed_by}
use Rattle.trunk_write_tests.proofs.fields_fine.Goals as goal

pub returns-then-not-kind_fine : goal.returns-then-not-kind_fine
unfolding masked_fits
returns-then-not-kind_fine c = search (tests, answered)

pub returns-then-not-clear_by : goal.returns-then-not-clear_by
unfolding masked_fits
returns-then-not-clear_by c =
    let clear = test_no _ (billed_by c.args.form (get_or c.args.figure.now 44 0) (get_or c.args.figure.now 45 0) && (money true).valid (money_in c.args.figure.now)) _ c.clear_by.ensures c.if-not-clear_by.true in
    test_yes _ _ _ _ c.kind_fine.ensures c.if-not-kind_fine.false (clear ∙ sym (picked _ _ (eq-eqb _ _ c.if-kind-eq-MONEY.true)))

pub returns-then-not-billed_fine : goal.returns-then-not-billed_fine
unfolding masked_fits
returns-then-not-billed_fine c =
    let billed = test_no _ ((money true).valid (money_in c.args.figure.now)) _ c.billed_fine.ensures c.if-not-billed_fine.true in
    let clear = test_yes _ _ _ _ c.clear_by.ensures c.if-not-clear_by.false billed in
    test_yes _ _ _ _ c.kind_fine.ensures c.if-not-kind_fine.false (clear ∙ sym (picked _ _ (eq-eqb _ _ c.if-kind-eq-MONEY.true)))

pub returns-then-kind-eq-MONEY : goal.returns-then-kind-eq-MONEY
unfolding masked_fits
returns-then-kind-eq-MONEY c =
    let valid = c.money_fine.ensures ∙ ap (money true).valid c.money_of-m.ensures in
    let billed = test_yes _ _ _ _ c.billed_fine.ensures c.if-not-billed_fine.false valid in
    let clear = test_yes _ _ _ _ c.clear_by.ensures c.if-not-clear_by.false billed in
    test_yes _ _ _ _ c.kind_fine.ensures c.if-not-kind_fine.false (clear ∙ sym (picked _ _ (eq-eqb _ _ c.if-kind-eq-MONEY.true)))

pub returns : goal.returns
unfolding masked_fits
returns c = search (tests, answered)
