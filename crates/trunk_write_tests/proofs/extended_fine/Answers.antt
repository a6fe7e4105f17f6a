use Rattle.prelude.proofs.Prelude.{arith}
use Rattle.coding.specs.Reader.{part}
use Rattle.trunk_write_tests.proofs.Tests.{extension_over, extension_long, extension_past, extension_none, extension_judged}
use Rattle.trunk_write_tests.proofs.extended_fine.Goals as goal

pub returns-then-most_extension-kind : goal.returns-then-most_extension-kind
returns-then-most_extension-kind c = extension_over c.args.extension.now (omega arith) _ c.most_extension.ensures c.if-most_extension-kind.true

pub returns-then-n-gt242 : goal.returns-then-n-gt242
returns-then-n-gt242 c = extension_long c.args.extension.now (omega arith) _ c.most_extension.ensures c.if-most_extension-kind.false (rw c.from-n.ensures at c.if-n-gt242.true)

pub returns-then-not-all_are : goal.returns-then-not-all_are
unfolding part
returns-then-not-all_are c =
    extension_past c.args.extension.now (omega arith) _ c.most_extension.ensures c.if-most_extension-kind.false (rw c.from-n.ensures at c.if-n-gt242.false) (rw c.from-n.ensures at c.all_are.ensures) c.if-not-all_are.true

pub returns-then-kind-eq-NOT : goal.returns-then-kind-eq-NOT
unfolding part
returns-then-kind-eq-NOT c =
    rw c.from-n.ensures
    (extension_none c.args.extension.now (omega arith) _ c.most_extension.ensures c.if-most_extension-kind.false (rw c.from-n.ensures at c.if-n-gt242.false) (rw c.from-n.ensures at c.all_are.ensures) c.if-not-all_are.false c.if-kind-eq-NOT.true)

pub returns : goal.returns
unfolding part
returns c =
    extension_judged c.args.extension.now (omega arith) _ c.most_extension.ensures c.if-most_extension-kind.false (rw c.from-n.ensures at c.if-n-gt242.false) (rw c.from-n.ensures at c.all_are.ensures) c.if-not-all_are.false c.if-kind-eq-NOT.false
    (rw c.from-n.ensures at c.is_form.ensures)
