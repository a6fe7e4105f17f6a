use Rattle.std.proofs.Common.{rules, take, drop}
use borrow.Author.Tests.{tests}
use Rattle.prelude.proofs.Prelude.{arith, eqb}
use Rattle.std.proofs.lemmas.Iterator.{YieldsList-from_slice}
use Rattle.std.proofs.lemmas.Iterator.Search.{all_from_yields_List}
use Rattle.trunk_write.proofs.Spare.{spare_all}
use Rattle.trunk_write.proofs.spare_zero.Goals as goal

pub returns : goal.returns
returns c =
    spare_all c.args.front.now (omega arith)
    (all_from_yields_List {all = take 4 (drop 44 c.args.front.now)} (λ x. eqb x 0) _ _ _ c.all.ensures.ran (YieldsList-from_slice _ (search rules)) (λ x b q k. search (rules, tests)))
