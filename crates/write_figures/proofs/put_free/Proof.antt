use Rattle.write_figures.proofs.Cited.{arith, rules, room_as, wrote_is, wrote_three}
use Rattle.write_figures.proofs.{Frames.{fine_association, ended_during, free_1, free_2, free_octets, free_3}, put_free.Statement.statement}
use Rattle.write_figures.proofs.put_free.Tie as tie

pub put_free_spec : {M : Type 1} → statement M
put_free_spec =
    tie.close
    (tie.spec (λ c κs. search (room_as, ended_during)) (omega arith) (λ c. search (wrote_is, ended_during)) (λ c κs. search fine_association) (omega arith)
    (λ c κs. search (rules, free_1)) (λ c κs. search free_2) (λ c κs. search (fine_association, free_3)) (omega arith) (λ c. search (wrote_three, free_octets)))
