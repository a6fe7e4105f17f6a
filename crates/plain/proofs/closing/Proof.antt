use Rattle.plain.specs.Answers.{plain_closing}
use Rattle.plain.proofs.{Cited.{refl, arith, no_list_lem, a_list}, closing.Statement.statement}
use Rattle.plain.proofs.closing.Tie as tie

pub closing_spec : {M : Type 1} → statement M
unfolding plain_closing
closing_spec =
    tie.close
    (tie.spec (omega arith) (omega arith) (λ c. let i = c.before in rw (c.no_closing.ensures, no_list_lem i.before.is_list.ensures i.if-not-is_list.true) refl)
    (λ c κs. a_list c.before.is_list.ensures c.if-not-is_list.false)
    (λ c. let i = c.before in rw (c.closing_in-closing.ensures, a_list i.before.is_list.ensures i.if-not-is_list.false) refl))
