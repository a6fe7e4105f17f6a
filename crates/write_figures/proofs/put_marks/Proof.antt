use Rattle.write_figures.proofs.Cited.{arith, rules, room_as, wrote_is, room_2, wrote_two}
use Rattle.write_figures.proofs.{Frames.{marks_during, marks_ending, marks_1}, put_marks.Statement.statement}
use Rattle.write_figures.proofs.put_marks.Tie as tie

pub put_marks_spec : {M : Type 1} → statement M
put_marks_spec =
    tie.close
    (tie.spec (λ c κs. search (rules, room_as, marks_ending)) (omega arith) (λ c. search (rules, wrote_is, marks_ending)) (λ c κs. search (rules, marks_1))
    (λ c κs. search (rules, room_2, marks_during)) (omega arith) (λ c. search (rules, wrote_two, marks_during)))
