use Rattle.std.proofs.Common.{rules, ltb}
use borrow.Author.Tests.{tests}
use Rattle.std.proofs.lemmas.Iterator.{YieldsList-from_slice}
use Rattle.std.proofs.lemmas.Iterator.Search.{all_from_yields_List}
use Rattle.octets.proofs.Slices.{every_part}
use Rattle.octets.proofs.below.Goals as goal

pub returns : goal.returns
returns c = every_part _ _ _ _ _
    (all_from_yields_List (λ x. ltb x c.args.limit) _ _ _ c.all.ensures.ran (YieldsList-from_slice _ (search rules)) (λ x b q k. search (rules, tests)))
