use Rattle.prelude.proofs.Prelude.{arith, refl}
use Rattle.reply_rules.proofs.{Ids.no_first, first_of.Statement.statement}
use Rattle.reply_rules.proofs.first_of.Tie as tie

pub first_of_spec : {M : Type 1} → statement M
first_of_spec = tie.close (tie.spec (λ c. no_first c.before.args.octets.now c.if-octets-eq0.true) (λ c. omega arith) (λ c. refl))
