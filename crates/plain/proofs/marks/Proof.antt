use Rattle.plain.specs.Answers.{plain_marks}
use Rattle.plain.proofs.{Cited.{refl, arith, no_list_lem, a_list}, marks.Statement.statement}
use Rattle.plain.proofs.marks.Tie as tie

pub marks_spec : {M : Type 1} → statement M
unfolding plain_marks
marks_spec =
    tie.close
    (tie.spec (omega arith) (λ c. rw (no_list_lem c.before.is_list.ensures c.if-not-is_list.true) refl)
    (λ c κs. a_list c.before.is_list.ensures c.if-not-is_list.false)
    (λ c κs. let i = c.before in a_list i.before.is_list.ensures i.if-not-is_list.false)
    (λ c. let t = c.before in let i = t.before in
    rw (t.told_set-absent.ensures, c.told_set-conflict.ensures, a_list i.before.is_list.ensures i.if-not-is_list.false) refl))
