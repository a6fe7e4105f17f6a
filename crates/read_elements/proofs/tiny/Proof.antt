use Rattle.prelude.proofs.Prelude.{arith}
use Rattle.read_elements.proofs.{Shortcut.not_tiny, Shortcut.is_tiny, tiny.Statement.statement}
use Rattle.read_elements.proofs.tiny.Tie as tie

pub tiny_spec : {M : Type 1} → statement M
tiny_spec =
    tie.close
    (tie.spec (λ c. not_tiny _ _ _ _ λ t. omega arith) (omega arith) (λ c. not_tiny _ _ _ _ λ t. omega arith) (omega arith)
    (λ c. not_tiny _ _ _ _ λ t. omega arith) (omega arith) (omega arith) (λ c. not_tiny _ _ _ _ λ t. omega arith) (omega arith) (omega arith)
    (omega arith) (λ c. is_tiny _ _ _ _ (omega arith) (record { inside = omega arith; named = omega arith; single = omega arith; octet = omega arith })))
