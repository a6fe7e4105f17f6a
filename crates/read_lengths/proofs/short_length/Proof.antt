use Rattle.prelude.proofs.Prelude.{arith}
use Rattle.read_lengths.proofs.{Shortcut.not_short, Shortcut.is_short, short_length.Statement.statement}
use Rattle.read_lengths.proofs.short_length.Tie as tie

pub short_length_spec : {M : Type 1} → statement M
short_length_spec =
    tie.close
    (tie.spec (λ c. not_short _ _ _ _ λ t. omega arith) (omega arith) (λ c. not_short _ _ _ _ λ t. omega arith) (omega arith)
    (λ c. not_short _ _ _ _ λ t. omega arith) (omega arith) (omega arith) (omega arith) (λ c. not_short _ _ _ _ λ t. omega arith) (omega arith) (omega arith)
    (λ c. not_short _ _ _ _ λ t. omega arith)
    (λ c. is_short _ _ _ _ (record { inside = omega arith; named = omega arith; small = omega arith; octet = omega arith })))
