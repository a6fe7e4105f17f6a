use Rattle.prelude.proofs.Prelude.{rules, arith, length-set}
use Rattle.coding.proofs.Writing.{wrote_3}
use Rattle.element_write.proofs.put_head.Statement.{statement}
use Rattle.element_write.proofs.put_head.Tie as tie

pub put_head_spec : {M : Type 1} → statement M
put_head_spec =
    tie.close
    (tie.spec (search rules) (search rules) (search rules) (λ c. simp length-set (omega arith)) (λ c. simp length-set (omega arith)) (search rules)
    (λ c. wrote_3 _ 0 _ _ _))
