-- The operations are those from 59 to 65.
use Rattle.prelude.proofs.Prelude.{arith, refl, sym, ltb, leb, le-ltb, lt-leb}
use Rattle.trunk_types.specs.Components.{trunk_operations}
use Rattle.read_heads.proofs.Codes.{none_of, count, counted}
use Rattle.trunk_read_heads.proofs.known_operation.Statement.{statement}
use Rattle.trunk_read_heads.proofs.known_operation.Tie as tie

pub known_operation_spec : {M : Type 1} → statement M
unfolding count
known_operation_spec =
    tie.close (tie.spec
    (λ c. sym (counted 59 7 _ (omega arith) (omega arith)))
    (λ c. sym (none_of (leb 59) trunk_operations _ refl (lt-leb _ _ (omega arith))))
    (λ c. sym (none_of (λ k. ltb k 66) trunk_operations _ refl (le-ltb _ _ (omega arith)))))
