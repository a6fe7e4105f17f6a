-- Silent, or the reject by the number, the first octet and the identifier.
use Rattle.prelude.proofs.Prelude.{arith, sym, ◌∙◌}
use Rattle.reply_rules.specs.Rejects.{reply_by}
use Rattle.reply.proofs.{Silence.silent_accepted, Silence.silent_reject, Silence.spoken, Silence.replied, reply_to.Statement.statement}
use Rattle.reply.proofs.reply_to.Tie as tie

returns-3 : tie.Need-returns
returns-3 c =
    let w = c.before.before in
    let r = w.before.before in
    let i = r.before in
    let f = i.before.before in
    let x = f.before.before.before in
    let n = x.before.args.number in
    let first = f.first_of-first.ensures in
    let id = i.identifier_of.ensures in
    replied n _ _ r.reject_for-r.result (spoken n x.before.args.octets.now f.before.if-number-eq0.false (λ z. i.before.if-first.false (first ∙ z)))
    (r.reject_for-r.ensures ∙ (λ k. reply_by n (first k) (id k))) w.write.ensures.0 w.write.ensures.1

pub reply_to_spec : {M : Type 1} → statement M
reply_to_spec =
    tie.close
    (tie.spec (omega arith) (λ c. rw c.nothing.ensures (silent_accepted _ _ _ c.before.if-number-eq0.true))
    (omega arith) (omega arith) (λ c. rw c.nothing-then-first.ensures (silent_reject _ _ _ (sym c.before.before.first_of-first.ensures ∙ c.before.if-first.true)))
    (omega arith) (omega arith) (omega arith) (omega arith) returns-3)
