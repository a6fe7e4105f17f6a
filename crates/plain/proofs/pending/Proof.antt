use Rattle.outcomes.specs.Outcome.{Requests}
use Rattle.account.specs.History.{requests, pending_of}
use Rattle.plain_lists.proofs.Figures.{whole}
use Rattle.plain.specs.Answers.{plain_pending}
use Rattle.plain.proofs.{Cited.{◌∙◌, ap, refl, arith, no_list_lem, a_list}, pending.Statement.statement}
use Rattle.plain.proofs.pending.Tie as tie

returns-2 : tie.Need-returns
unfolding plain_pending
returns-2 c =
    let t = c.before in
    let i = t.before in
    let x = i.before.before.before.before.args in
    rw (a_list i.before.is_list.ensures i.if-not-is_list.false)
    (ap (λ (q : Requests). record { number = 0; pending = pending_of q }) (t.status_before-t.ensures.1 ∙ whole x.rows.now x.octets.now requests))

pub pending_spec : {M : Type 1} → statement M
unfolding plain_pending
pending_spec =
    tie.close
    (tie.spec (omega arith) (λ c. rw (no_list_lem c.before.is_list.ensures c.if-not-is_list.true) refl)
    (λ c κs. record { list = a_list c.before.is_list.ensures c.if-not-is_list.false; some = omega arith }) returns-2)
