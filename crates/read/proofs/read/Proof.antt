-- That of `read_into`, in one record.
use Rattle.prelude.proofs.Prelude.{arith}
use Rattle.read.proofs.read.{Statement.statement, Tie.close, Tie.spec}

pub read_spec : {M : Type 1} → statement M
read_spec =
    close (spec (omega arith) (omega arith) (omega arith)
    (λ c. let parts = c.before.before in simp (c.figure_of-figure.ensures, parts.front_of-front.ensures) parts.before.before.read_into-r.ensures))
