use Rattle.std.proofs.Common.{rules, tests, refl, ◌∙◌}
use Rattle.std.proofs.lemmas.Iterator.{YieldsList-from_range}
use Rattle.std.proofs.lemmas.Iterator.Search.{all_from_yields_List}
use Rattle.amounts.proofs.Currencies.{same_at, ten_places}
use Rattle.amounts.proofs.same_currency.Goals as goal

pub returns : goal.returns
returns c =
    all_from_yields_List (same_at c.args.a c.args.b) _ _ _ c.all.ensures.ran (YieldsList-from_range 0 10 10 (cc) refl) (λ x b q k. search (rules, tests))
    ∙ ten_places c.args.a c.args.b (search rules) (search rules)
