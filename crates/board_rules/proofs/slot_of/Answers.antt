use Rattle.std.proofs.Common.{◌∙◌, rules, tests, eqb}
use Rattle.std.proofs.lemmas.Iterator.{YieldsList-from_slice}
use Rattle.std.proofs.lemmas.Iterator.Search.{position_from_yields_List}
use Rattle.board_rules.proofs.Slots.{position_is}
use Rattle.board_rules.proofs.slot_of.Goals as goal

pub returns-clause-which : goal.returns-clause-which
returns-clause-which c =
    position_from_yields_List (eqb c.args.key) _ _ _ c.position.ensures.ran (YieldsList-from_slice c.args.keys (cc)) (λ x b q k. search (rules, tests))
    ∙ position_is c.args.key c.args.keys
