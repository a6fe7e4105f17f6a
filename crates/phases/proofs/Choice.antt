-- Choices by a test.
use Rattle.prelude.proofs.Prelude.{ℕ, ◌≡◌, refl, ap, Bool, true, false, not, ◌&&◌, ◌||◌, cond, and-false, or-false, eqb, arith, eqb-true, eq-eqb, ne_eqb, le-leb, lt-leb}
use Rattle.prelude.proofs.Ways.{by_cases}

pub if_same : {A : Type 0} (b : Bool) (x : A) → cond b x x ≡ x
if_same true x = refl
if_same false x = refl

-- by whether a number is another
pub by_number : {P : Type 0} (n k : ℕ) → (n ≡ k → P) → (eqb n k ≡ false → P) → P
by_number n k p q = by_cases (eqb n k) (λ e. p (eqb-true n k e)) q

-- a test that fails and passes
pub never : {P : Type 0} → false ≡ true → P
never q = let z : ◌≡◌ {A = ℕ} 0 1 = ap (λ (b : Bool). cond b 1 0) q in absurd (omega arith)

pub first_of : (a b : Bool) → (a && b) ≡ true → a ≡ true
first_of true b q = refl
first_of false b q = q

pub second_of : (a b : Bool) → (a && b) ≡ true → b ≡ true
second_of true b q = q
second_of false b q = never q

pub implied : (a b : Bool) → a ≡ true → (not a || b) ≡ true → b ≡ true
implied true b t q = q
implied false b t q = never t

-- what the code's tests say
pub ruleset tests = (eq-eqb, ne_eqb, le-leb, lt-leb, and-false, or-false)
