use Rattle.plain.specs.Answers.{plain_phase}
use Rattle.plain.proofs.{Cited.{refl, arith, no_list_lem, a_list}, phase.Statement.statement}
use Rattle.plain.proofs.phase.Tie as tie

pub phase_spec : {M : Type 1} → statement M
unfolding plain_phase
phase_spec =
    tie.close
    (tie.spec (omega arith) (λ c. rw (no_list_lem c.before.is_list.ensures c.if-not-is_list.true) refl)
    (λ c κs. a_list c.before.is_list.ensures c.if-not-is_list.false) (omega arith)
    (λ c. let i = c.before in rw (c.phase_in-phase.ensures, a_list i.before.is_list.ensures i.if-not-is_list.false) refl))
