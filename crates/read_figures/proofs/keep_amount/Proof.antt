use Rattle.read_figures.proofs.{Cited.arith, Kept.amount_kept, keep_amount.Statement.statement}
use Rattle.read_figures.proofs.keep_amount.Tie as tie

pub keep_amount_spec : {M : Type 1} → statement M
keep_amount_spec =
    tie.close
    (tie.spec (omega arith) (omega arith) (omega arith) (omega arith) (omega arith) (omega arith) (omega arith) (omega arith) (omega arith)
    (λ c. amount_kept c.args.a c.args.figure.now c.requires))
