-- The octets left fall.
use Rattle.prelude.proofs.Prelude.{arith, ℕ, length-set, Measures}
use Rattle.coding.proofs.Writing.{wrote_no_digit, wrote_digit}
use Rattle.write_elements.proofs.{+put_digits.statement, +put_digits.Tie.close}
use Rattle.write_elements.proofs.put_digits.Kinds as put_digits_kinds
use Rattle.write_elements.proofs.put_digits.Reads as put_digits
use Rattle.write_elements.proofs.+put_digits.Lts-put_digits as put_digits_lts

abbrev μ_put_digits : Measures 1 put_digits_kinds.ps ℕ
μ_put_digits κs a = a.1.1.0

pub +put_digits_spec : {M : Type 1} → statement M
+put_digits_spec = close μ_put_digits λ t. put_digits_lts.spec (_, put_digits.Post) _ put_digits.Post
    (λ c. wrote_no_digit _ _ _ _ c.if-w-eq0.true)
    (omega arith) (omega arith) (λ c. omega arith) (λ c. omega arith) (omega arith) (omega arith) (omega arith)
    (λ c κs. (omega arith, (omega arith, simp length-set (omega arith))))
    (λ c. simp length-set at c.before.before.put_digits.ensures.kept)
    (λ c. wrote_digit _ _ _ (omega arith) c.before.before.put_digits.ensures)
