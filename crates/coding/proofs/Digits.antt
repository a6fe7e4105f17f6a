-- Numbers and their octets, over any number of octets.
use Rattle.prelude.proofs.Prelude.{ℕ, zero, suc, ◌+◌, ◌*◌, ◌/◌, ◌%◌, ◌^◌, ◌≤◌, ◌<◌, ◌≡◌, refl, sym, ap, ap₂, ◌∙◌, List, [], ◌∷◌, Bool, true, false, cond, arith, pow-suc, mod-eq_of_lt}
use Rattle.prelude.proofs.Prelude.{mul-suc, mul-le-mul_right, pow-add, mul-add-div_right, digits_div, digits_lt, mod-mul, length, eqb, leb-true, eqb-false}
use Rattle.coding.specs.{Reader.Fault, Reader.Ruling, Contents.number_from, Contents.shortest, Leaves.digits, Codec.Leaf}
use Rattle.coding.proofs.{Basic.cond_case, Laws.Octets, Laws.LeafLaws}

pub power_some : (k : ℕ) → 0 < 256 ^ k
power_some zero = omega arith
power_some (suc k) = omega (arith, pow-suc 256 k, power_some k)

-- k octets have 8 k bits
pub power_bits : (k : ℕ) → 256 ^ k ≡ 2 ^ (8 * k)
power_bits zero = refl
power_bits (suc k) = omega (arith, pow-suc 256 k, power_bits k, ap (λ (i : ℕ). 2 ^ i) (mul-suc 8 k), pow-add 2 (8 * k) 8)

-- ---- the number of a list

from_split : (n : ℕ) (xs : List ℕ) → number_from n xs ≡ n * 256 ^ length xs + number_from 0 xs
unfolding number_from
from_split n [] = omega arith
from_split n (x ∷ xs) = omega (arith, from_split (n * 256 + x) xs, from_split (0 * 256 + x) xs, ap (λ (q : ℕ). n * q) (pow-suc 256 (length xs)))

pub number_cons : (x : ℕ) (xs : List ℕ) → number_from 0 (x ∷ xs) ≡ x * 256 ^ length xs + number_from 0 xs
unfolding number_from
number_cons x xs = omega (arith, from_split (0 * 256 + x) xs)

pub tail : (x : ℕ) (xs : List ℕ) → Octets (x ∷ xs) → Octets xs
tail x xs os i = os (suc i)

pub number_lt : (xs : List ℕ) → Octets xs → number_from 0 xs < 256 ^ length xs
unfolding number_from
number_lt [] os = omega arith
number_lt (x ∷ xs) os = omega (arith, number_cons x xs, pow-suc 256 (length xs), digits_lt {q = x} {m = 256} (os 0) (number_lt xs (tail x xs os)))

-- ---- octets of a number

pub length_digits : (k n : ℕ) → length (digits k n) ≡ k
unfolding digits
length_digits zero n = refl
length_digits (suc k) n = ap suc (length_digits k n)

pub octets_digits : (k n : ℕ) → Octets (digits k n)
unfolding digits
octets_digits zero n i = omega arith
octets_digits (suc k) n zero = omega arith
octets_digits (suc k) n (suc i) = octets_digits k n i

pub number_digits : (k n : ℕ) → number_from 0 (digits k n) ≡ n % 256 ^ k
unfolding digits number_from
number_digits zero n = omega arith
number_digits (suc k) n =
    number_cons (n / 256 ^ k % 256) (digits k n)
    ∙ ap₂ (λ (l m : ℕ). n / 256 ^ k % 256 * 256 ^ l + m) (length_digits k n) (number_digits k n)
    ∙ sym (ap (λ (m : ℕ). n % m) (omega (arith, pow-suc 256 k)) ∙ mod-mul n {m = 256} {c = 256 ^ k} (omega arith) (power_some k))

pub digits_high : (k q r : ℕ) → digits k (q * 256 ^ k + r) ≡ digits k r
unfolding digits
digits_high zero q r = refl
digits_high (suc k) q r =
    let P : ℕ = 256 ^ k in
    let e : q * 256 ^ suc k + r ≡ q * 256 * P + r = ap (λ (m : ℕ). m + r) (ap (λ (m : ℕ). q * m) (pow-suc 256 k) ∙ omega arith) in
    let head : (q * 256 ^ suc k + r) / P ≡ q * 256 + r / P = ap (λ (m : ℕ). m / P) e ∙ mul-add-div_right {m = P} (power_some k) (q * 256) r in
    ap₂ (λ (d : ℕ) (ds : List ℕ). d ∷ ds) (ap (λ (m : ℕ). m % 256) head ∙ omega arith) (ap (digits k) e ∙ digits_high k (q * 256) r)

-- octets are those of their number
pub digits_number : (xs : List ℕ) → Octets xs → digits (length xs) (number_from 0 xs) ≡ xs
unfolding digits
digits_number [] os = refl
digits_number (x ∷ xs) os =
    let P : ℕ = 256 ^ length xs in
    let lt = number_lt xs (tail x xs os) in
    ap (λ (n : ℕ). n / P % 256 ∷ digits (length xs) n) (number_cons x xs)
    ∙ ap₂ (λ (d : ℕ) (ds : List ℕ). d ∷ ds)
    (ap (λ (m : ℕ). m % 256) (digits_div x lt) ∙ mod-eq_of_lt (os 0))
    (digits_high (length xs) x (number_from 0 xs) ∙ digits_number xs (tail x xs os))

-- ---- which lists of octets are shortest and not negative, by their number

-- not negative: below half of what the octets hold
pub below : (x : ℕ) (xs : List ℕ) → Octets (x ∷ xs) → x < 128 → number_from 0 (x ∷ xs) < 128 * 256 ^ length xs
below x xs os h = omega (arith, number_cons x xs, digits_lt {q = x} {m = 128} h (number_lt xs (tail x xs os)))

pub number_two : (x y : ℕ) (xs : List ℕ) → number_from 0 (x ∷ y ∷ xs) ≡ x * (256 ^ length xs * 256) + (y * 256 ^ length xs + number_from 0 xs)
number_two x y xs = omega (arith, number_cons x (y ∷ xs), number_cons y xs, ap (λ (q : ℕ). x * q) (pow-suc 256 (length xs)))

-- shortest: at least half of what one octet fewer holds
pub least : (x y : ℕ) (xs : List ℕ) → Octets (x ∷ y ∷ xs) → x < 128 → shortest (x ∷ y ∷ xs) ≡ true → 128 * 256 ^ length xs ≤ number_from 0 (x ∷ y ∷ xs)
unfolding shortest
least x y xs os h s =
    cond_case (eqb x 0) s
    (λ q r. omega (arith, number_two x y xs, mul-le-mul_right (256 ^ length xs) (leb-true 0x80 y r)))
    (λ q r. let one : 1 ≤ x = omega (arith, eqb-false x 0 q) in omega (arith, number_two x y xs, mul-le-mul_right (256 ^ length xs * 256) one))

-- ---- contents that are judged good

pub data Fit {A : Type 0} (P : A → Type 0) : Ruling A → Type 0 where
  fit : {a : A} → P a → Fit P (Ruling.good a)
  out : {w : Fault} → Fit P (Ruling.bad w)

module _ {A : Type 0} {P : A → Type 0} where
  pub judged : (j : Ruling A) → ((a : A) → j ≡ Ruling.good a → P a) → Fit P j
  judged (Ruling.good a) h = fit (h a refl)
  judged (Ruling.bad w) h = out

  pub fitting : {j : Ruling A} {a : A} → Fit P j → j ≡ Ruling.good a → P a
  fitting {a = a} (fit {a = b} p) e = let q : b ≡ a = cc in rw q at p
  fitting out e = let z : ◌≡◌ {A = ℕ} 0 1 = cc in absurd (omega arith)

  pub decide : (t : Bool) {x y : Ruling A} → (t ≡ true → Fit P x) → (t ≡ false → Fit P y) → Fit P (cond t x y)
  decide true f g = f refl
  decide false f g = g refl

-- a leaf's laws
pub leaf_laws : {A : Type 0} {l : Leaf A} → ((xs : List ℕ) → Octets xs → Fit (λ x. (xs ≡ l.write x) × (l.valid x ≡ true)) (l.judge xs))
    → ((x : A) → l.valid x ≡ true → l.judge (l.write x) ≡ Ruling.good x) → ((x : A) → l.valid x ≡ true → Octets (l.write x)) → LeafLaws l
leaf_laws sound complete octets = record { sound = λ xs x os r. fitting (sound xs os) r; complete = complete; octets = octets }
