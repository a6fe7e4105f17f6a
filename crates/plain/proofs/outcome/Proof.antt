use Rattle.plain.specs.Answers.{plain_outcome}
use Rattle.plain.proofs.{Cited.{refl, arith, no_list_lem, a_list}, outcome.Statement.statement}
use Rattle.plain.proofs.outcome.Tie as tie

pub outcome_spec : {M : Type 1} → statement M
unfolding plain_outcome
outcome_spec =
    tie.close
    (tie.spec (omega arith) (λ c. rw (no_list_lem c.before.is_list.ensures c.if-not-is_list.true) refl)
    (λ c κs. a_list c.before.is_list.ensures c.if-not-is_list.false)
    (λ c. let i = c.before in rw (c.outcome_in-outcome.ensures, a_list i.before.is_list.ensures i.if-not-is_list.false) refl))
