-- Each store is the next of the row.
use Rattle.prelude.proofs.Prelude.{arith, refl, towards_suc}
use Rattle.read_unit.proofs.keep_unit.Statement.{statement}
use Rattle.read_unit.proofs.keep_unit.Tie as tie

pub keep_unit_spec : {M : Type 1} → statement M
keep_unit_spec =
    tie.close (tie.spec (λ c. omega arith) (λ c. omega arith) (λ c. omega arith) (λ c. omega arith) (λ c. omega arith) (λ c. omega arith) (λ c. omega arith) (λ c. (refl, simp towards_suc)))
