-- By the slot that the reference holds.
use Rattle.std.proofs.Common.{◌<◌, ◌∙◌, sym, ap, length, get_or, rules}
use Rattle.std.proofs.lemmas.List.{get_or_default}
use Rattle.account.specs.{declared.Account.Account, History.fresh}
use Rattle.board_rules.specs.Board.{emptied}
use Rattle.board_rules.specs.declared.Collected.{Collected}
use Rattle.board_rules.specs.inner.ByValue.{free_of}
use Rattle.board_rules.proofs.ByValue.{off_thin, off_none}
use Rattle.board.proofs.collect_in.Goals as goal

pub returns-in-None : goal.returns-in-None
returns-in-None c =
    ap (λ (w : Collected). emptied w c.args.t.now) c.not_collected.ensures ∙ off_none c.args.t.now c.args.reference (sym c.slot_at.ensures.which ∙ c.in-None.is)

pub returns-in-Some : goal.returns-in-Some
returns-in-Some c =
    let h : c.in-Some.at < length c.args.t.now.calls = search rules in
    off_thin c.args.t.now c.args.reference c.in-Some.at (sym c.slot_at.ensures.which ∙ c.in-Some.is) c.free-w.result
    (c.free-w.ensures ∙ ap (λ (a : Account). free_of a (get_or c.args.t.now.keys c.in-Some.at 0)) (get_or_default c.args.t.now.calls c.in-Some.at _ fresh h))
