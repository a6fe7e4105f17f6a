-- Each store is the next of the row.
use Rattle.prelude.proofs.Prelude.{◌∙◌, arith, towards_suc}
use Rattle.read_rate.proofs.keep_rate.Statement.{statement}
use Rattle.read_rate.proofs.keep_rate.Tie as tie

pub keep_rate_spec : {M : Type 1} → statement M
keep_rate_spec =
    tie.close
    (tie.spec (λ c. omega arith) (λ c. omega arith) (λ c. omega arith) (λ c. omega arith) (λ c. omega arith) (λ c. omega arith) (λ c. omega arith)
    (λ c. omega arith) (λ c. omega arith) (λ c. omega arith) (λ c. omega arith) (λ c. omega arith) (λ c. omega arith) (λ c. omega arith) (λ c. omega arith)
    (λ c. omega arith) (λ c. omega arith) (λ c. omega arith) (λ c. omega arith) (λ c. omega arith) (λ c. omega arith) (λ c. omega arith) (λ c. omega arith)
    (λ c. omega arith) (λ c. omega arith) (λ c. omega arith) (λ c κs. omega arith) (λ c. (simp towards_suc, c.keep_text.ensures ∙ simp towards_suc)))
