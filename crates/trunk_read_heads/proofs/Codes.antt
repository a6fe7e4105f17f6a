-- Values of a trunk's lists: no known one is over 1016.
use Rattle.prelude.proofs.{Prelude.{ℕ, ◌≡◌, refl, true, ltb, eqb}, Ways.by_cases}
use Rattle.coding.specs.Codec.{all}
use Rattle.trunk_read_heads.specs.inner.Known.{known_in}

pub known_low : (k : ℕ) → (all (λ n. ltb n 16777216) (known_in k) ≡ true) × (all (λ n. ltb n 1017) (known_in k) ≡ true)
known_low k = by_cases (eqb k 1) (λ p. rw p (refl, refl)) (λ p. by_cases (eqb k 2) (λ q. rw (p, q) (refl, refl)) (λ q. rw (p, q) (refl, refl)))
