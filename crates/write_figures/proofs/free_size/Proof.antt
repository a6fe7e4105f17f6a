use Rattle.write_figures.proofs.{Cited.{arith, rules}, Frames.{fine_association, free_during_length, free_length}, free_size.Statement.statement}
use Rattle.write_figures.proofs.free_size.Tie as tie

pub free_size_spec : {M : Type 1} → statement M
free_size_spec =
    tie.close
    (tie.spec (λ c. search (rules, free_during_length)) (λ c κs. search fine_association) (omega arith) (omega arith) (λ c. search (rules, free_length)))
