-- Each way of an event is the table's step by its seat.
use Rattle.std.proofs.Common.{◌≡◌, ◌<◌, ◌∙◌, ap, length, arith, rules}
use Rattle.std.proofs.lemmas.List.{get_or_default}
use Rattle.account.specs.{declared.Account.Account, History.fresh, History.stepped, Step.stepped_of}
use Rattle.phases.specs.declared.Outcome.{Outcome}
use Rattle.board_rules.specs.Board.{boarded}
use Rattle.board_rules.proofs.ByValue.{lent_thin, refused_thin, taken_thin}
use Rattle.board.proofs.event_in.Goals as goal

pub returns-in-Own : goal.returns-in-Own
returns-in-Own c =
    let n : length c.args.t.now.keys ≡ 64 = omega arith in
    let h : c.in-Own.at < length c.args.t.now.calls = search rules in
    lent_thin c.args.t.now c.args.reference c.args.e c.args.octets.now n c.seat_of.ensures.which c.in-Own.at c.in-Own.is (stepped c.step_in.result c.step_in.new.a)
    (c.step_in.ensures.0 ∙ ap (λ (a : Account). stepped_of a c.args.e c.args.octets.now) (get_or_default c.args.t.now.calls c.in-Own.at _ fresh h))

pub returns-in-Refused : goal.returns-in-Refused
returns-in-Refused c =
    let n : length c.args.t.now.keys ≡ 64 = omega arith in
    ap (λ (o : Outcome). boarded o c.args.t.now) c.no_service.ensures
    ∙ refused_thin c.args.t.now c.args.reference c.args.e c.args.octets.now n c.seat_of.ensures.which c.in-Refused.number c.in-Refused.is

pub returns-in-Free : goal.returns-in-Free
returns-in-Free c =
    let n : length c.args.t.now.keys ≡ 64 = omega arith in
    taken_thin c.args.t.now c.args.reference c.args.e c.args.octets.now n c.seat_of.ensures.which c.in-Free.at c.in-Free.is c.taken_up-w.result c.taken_up-w.ensures
