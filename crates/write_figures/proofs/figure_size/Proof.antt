use Rattle.write_figures.proofs.{Cited.rules, Plain.{figure_fine_lem, figure_valid, figure_none_length, figure_arranged_length, figure_free_length}}
use Rattle.write_figures.proofs.{Plain.figure_money_length, figure_size.Statement.statement}
use Rattle.write_figures.proofs.figure_size.Tie as tie

pub figure_size_spec : {M : Type 1} → statement M
figure_size_spec =
    tie.close
    (tie.spec (λ c. search (rules, figure_none_length)) (λ c. search (rules, figure_arranged_length)) (λ c κs. search figure_fine_lem)
    (λ c. search (rules, figure_free_length)) (λ c κs. search figure_valid) (λ c κs. search (rules, figure_fine_lem)) (λ c. search (rules, figure_money_length)))
