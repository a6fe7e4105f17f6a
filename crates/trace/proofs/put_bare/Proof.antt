use Rattle.trace.proofs.{Cited.{arith, refl}, Laying.bare_put, put_bare.Statement.statement}
use Rattle.trace.proofs.put_bare.Tie as tie

pub put_bare_spec : {M : Type 1} → statement M
put_bare_spec =
    tie.close (tie.spec (omega arith) (omega arith)
    (λ c. let r = c.before.before in let x = r.before.before.before.args in λ out. bare_put x.e _ _ x.p _ r.put_row-row.ensures refl out))
