-- By the slot that the reference holds.
use Rattle.std.proofs.Common.{◌<◌, ◌∙◌, sym, ap, length, rules}
use Rattle.std.proofs.lemmas.List.{get_or_default}
use Rattle.account.specs.{declared.Account.Account, History.fresh}
use Rattle.board_rules.specs.declared.Viewed.{Viewed}
use Rattle.board_rules.proofs.ByValue.{view_thin, view_none}
use Rattle.board.proofs.view_in.Goals as goal

pub returns-in-None : goal.returns-in-None
returns-in-None c = c.not_viewed.ensures ∙ view_none c.args.t.now c.args.reference (sym c.slot_at.ensures.which ∙ c.in-None.is)

-- what a reading of an account answers
abbrev shown : Account → Viewed
shown a = record { number = 0; account = a }

pub returns-in-Some : goal.returns-in-Some
returns-in-Some c =
    let h : c.in-Some.at < length c.args.t.now.calls = search rules in
    c.view.ensures ∙ ap shown (get_or_default c.args.t.now.calls c.in-Some.at _ fresh h)
    ∙ view_thin c.args.t.now c.args.reference c.in-Some.at (sym c.slot_at.ensures.which ∙ c.in-Some.is)
