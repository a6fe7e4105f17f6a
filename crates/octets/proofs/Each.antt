-- A loop that tests each number below n, and stops at the first that fails.
use Rattle.prelude.proofs.Prelude.{ℕ, zero, suc, ◌+◌, ◌<◌, ◌≡◌, Bool, true, false, and-false, add-one, dec_lt, not-suc-le-zero, arith}
use Rattle.octets.specs.Each.{each}

pub each_fails : (n : ℕ) (t : ℕ → Bool) (k : ℕ) → k < n → t k ≡ false → each n t ≡ false
each_fails zero t k h f = absurd (not-suc-le-zero h)
each_fails (suc n) t k h f = elim (dec_lt k n) [
  | yes l ↦ rw (each_fails n t k l f)
  | no m ↦ let e : k ≡ n = omega arith in rw (← e, f) (and-false (each k t))
]

pub each_more : (i : ℕ) (t : ℕ → Bool) → each i t ≡ true → t i ≡ true → each (i + 1) t ≡ true
each_more i t e f = rw (add-one i, e, f)
