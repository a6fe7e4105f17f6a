use Rattle.write_figures.proofs.Cited.{arith, room_as, wrote_is, room_2, wrote_two}
use Rattle.write_figures.proofs.{Frames.{fine_total, fine_billing, fine_association, after_during, after_ending, after_1}, put_after.Statement.statement}
use Rattle.write_figures.proofs.put_after.Tie as tie

pub put_after_spec : {M : Type 1} → statement M
put_after_spec =
    tie.close
    (tie.spec (λ c κs. search (fine_total, fine_billing, room_as, after_during)) (omega arith) (λ c. search (wrote_is, after_during)) (λ c κs. search (fine_total, fine_billing, after_1))
    (λ c κs. search (fine_association, room_2, after_ending)) (omega arith) (λ c. search (wrote_two, after_ending)))
