use Rattle.prelude.proofs.Prelude.{arith, ap}
use Rattle.types.specs.declared.Answer.{Answer}
use Rattle.reply.specs.Reply.{reply_of, reply_left}
use Rattle.reply.proofs.reply.Statement.{statement}
use Rattle.reply.proofs.reply.Tie as tie

returns : tie.Need-returns
unfolding reply_of reply_left
returns c =
    let r = c.before.before in
    let number = ap (λ (a : Answer). a.number) r.before.before.read_into-a.ensures in
    rw (← number) (r.reply_to.ensures.0, r.reply_to.ensures.1)

pub reply_spec : {M : Type 1} → statement M
reply_spec = tie.close (tie.spec (omega arith) (omega arith) (omega arith) returns)
