-- INTEGER contents in two's complement, over any number of octets: their laws, and the number of ℤ that a pattern stands for.
use Rattle.prelude.proofs.Prelude.{ℕ, zero, suc, ◌+◌, ◌-◌, ◌*◌, ◌/◌, ◌%◌, ◌^◌, ◌≤◌, ◌<◌, ◌≡◌, refl, sym, ap, ap₂, ◌∙◌, List, [], ◌∷◌, true, false, true≢false, cond, arith, pow-suc}
use Rattle.prelude.proofs.Prelude.{mod-eq_of_lt, mul-le-mul_right, pow-le-pow_right, div-lt_iff_lt-mul, digits_lt, length, ltb, leb, eqb, ℤ, pos, negsuc, ltb-true, ltb-false, leb-true}
use Rattle.prelude.proofs.{Prelude.{leb-false, eqb-true, eqb-false, lt-ltb, le-ltb, le-leb, lt-leb}, Ways.by_cases}
use mir.{Syntax.w16, Val.to_z, Val.sel}
use Rattle.coding.specs.{Reader.Fault, Reader.Ruling, Contents.number_from, Contents.negative, Contents.value_of, Contents.shortest, Leaves.digits, Leaves.in_octets, Leaves.pattern_of}
use Rattle.coding.specs.{Leaves.integer, Leaves.shorten, Leaves.signed, Leaves.identifier}
use Rattle.coding.proofs.{Basic.picked, Basic.unpicked, Basic.by_test, Basic.cond_case, Basic.unless, Basic.octets_none, Basic.octets_cons, Laws.Octets, Laws.LeafLaws}
use Rattle.coding.proofs.{Digits.power_some, Digits.number_cons, Digits.tail, Digits.number_lt, Digits.length_digits, Digits.octets_digits, Digits.number_digits, Digits.digits_number}
use Rattle.coding.proofs.{Digits.below, Digits.number_two, Digits.least, Digits.fit, Digits.out, Digits.fitting, Digits.decide, Digits.leaf_laws}

-- ---- the number that octets say

-- what holds of it if the first bit is not set, and if it is
pub by_sign : (P : ℤ → Type 0) (xs : List ℕ) → Octets xs → (negative xs ≡ false → P (pos (number_from 0 xs)))
    → (negative xs ≡ true → P (negsuc (256 ^ length xs - suc (number_from 0 xs)))) → P (value_of xs)
unfolding value_of
by_sign P xs os low high = by_test P (negative xs) _ _ (λ q. rw (lt-ltb (number_from 0 xs) (256 ^ length xs) (number_lt xs os)) (high q)) low

pub half : (k : ℕ) → 256 ^ suc k / 2 ≡ 128 * 256 ^ k
half k = omega (arith, pow-suc 256 k)

-- it is one of as many octets, and its pattern is the octets' own
value_in : (x : ℕ) (xs : List ℕ) → Octets (x ∷ xs) → in_octets (suc (length xs)) (value_of (x ∷ xs)) ≡ true
unfolding negative
value_in x xs os =
    by_sign (λ z. in_octets (suc (length xs)) z ≡ true) (x ∷ xs) os
    (λ q. lt-ltb (number_from 0 (x ∷ xs)) (256 ^ suc (length xs) / 2) (omega (arith, half (length xs), below x xs os (leb-false 0x80 x q))))
    (λ q.
    lt-ltb (256 ^ suc (length xs) - suc (number_from 0 (x ∷ xs))) (256 ^ suc (length xs) / 2)
    (omega (arith, half (length xs), power_some (length xs), pow-suc 256 (length xs), number_cons x xs, mul-le-mul_right (256 ^ length xs) (leb-true 0x80 x q))))

pattern_value : (xs : List ℕ) → Octets xs → pattern_of (length xs) (value_of xs) ≡ number_from 0 xs
pattern_value xs os = by_sign (λ z. pattern_of (length xs) z ≡ number_from 0 xs) xs os (λ q. refl) (λ q. omega (arith, number_lt xs os))

-- the octet at 256 ^ k of a number below 128 times that
pub octet_low : (k n : ℕ) → n < 128 * 256 ^ k → n / 256 ^ k % 256 < 128
octet_low k n h = let d = (div-lt_iff_lt-mul {k = 256 ^ k} {x = n} {y = 128} (power_some k)).1 h in omega arith

-- ---- shortest octets are as many as their number needs

-- below 0, the first bit set: the distance from 256 ^ length is at least half of what one octet fewer holds
least_high : (x y : ℕ) (xs : List ℕ) → Octets (x ∷ y ∷ xs) → 128 ≤ x → shortest (x ∷ y ∷ xs) ≡ true
    → number_from 0 (x ∷ y ∷ xs) + 128 * 256 ^ length xs < 256 ^ suc (suc (length xs))
unfolding shortest
least_high x y xs os h s =
    let P : ℕ = 256 ^ length xs in
    let rest : (m : ℕ) → y < m → y * P + number_from 0 xs < m * P = λ m k. digits_lt {q = y} {m = m} k (number_lt xs (λ i. os (suc (suc i)))) in
    cond_case (eqb x 0) s (λ q r. absurd (omega (arith, eqb-true x 0 q)))
    (λ q r. cond_case (eqb x 0xff) r
    (λ i k. omega (arith, number_two x y xs, ap (λ (m : ℕ). m * (P * 256)) (eqb-true x 0xff i), rest 128 (ltb-true y 0x80 k), pow-suc 256 (length xs), pow-suc 256 (suc (length xs))))
    (λ i k.
    let low : x ≤ 254 = omega (arith, os 0, eqb-false x 0xff i) in
    omega (arith, number_two x y xs, mul-le-mul_right (P * 256) low, rest 256 (os 1), pow-suc 256 (length xs), pow-suc 256 (suc (length xs)))))

length_in : (k : ℕ) (xs : List ℕ) → Octets xs → shortest xs ≡ true → in_octets (suc k) (value_of xs) ≡ true → length xs ≤ suc k
unfolding negative
length_in k [] os s h = omega arith
length_in k (x ∷ []) os s h = omega arith
length_in k (x ∷ y ∷ xs) os s h =
    by_cases (ltb k (suc (length xs)))
    (λ q.
    let p : 256 ^ k ≤ 256 ^ length xs = pow-le-pow_right (omega arith) {i = k} {j = length xs} (omega (arith, ltb-true k (suc (length xs)) q)) in
    absurd (by_sign (λ z. in_octets (suc k) z ≡ true → ⊥) (x ∷ y ∷ xs) os
    (λ q i. omega (arith, half k, ltb-true (number_from 0 (x ∷ y ∷ xs)) _ i, least x y xs os (leb-false 0x80 x q) s))
    (λ q i. omega (arith, half k, ltb-true (256 ^ suc (suc (length xs)) - suc (number_from 0 (x ∷ y ∷ xs))) _ i, least_high x y xs os (leb-true 0x80 x q) s)) h))
    (λ q. omega (arith, ltb-false k (suc (length xs)) q))

-- ---- octets without those that are not needed

shorten_same : (xs : List ℕ) → shortest xs ≡ true → shorten xs ≡ xs
unfolding shorten
shorten_same [] s = refl
shorten_same (x ∷ xs) s = picked _ _ s

pub value_low : (x : ℕ) (xs : List ℕ) → x < 128 → value_of (x ∷ xs) ≡ pos (number_from 0 (x ∷ xs))
unfolding value_of negative
value_low x xs h = unpicked _ _ (lt-leb 0x80 x h)

value_high : (x : ℕ) (xs : List ℕ) → Octets (x ∷ xs) → 128 ≤ x → value_of (x ∷ xs) ≡ negsuc (256 ^ suc (length xs) - suc (number_from 0 (x ∷ xs)))
unfolding value_of negative
value_high x xs os h = picked _ _ (le-leb 0x80 x h) ∙ picked _ _ (lt-ltb _ _ (number_lt (x ∷ xs) os))

-- octets that are not shortest say what they say without the first
value_less : (x y : ℕ) (ys : List ℕ) → Octets (x ∷ y ∷ ys) → shortest (x ∷ y ∷ ys) ≡ false → value_of (y ∷ ys) ≡ value_of (x ∷ y ∷ ys)
unfolding shortest
value_less x y ys os s =
    let P : ℕ = 256 ^ suc (length ys) in
    cond_case (eqb x 0) s
    (λ q z.
    let n = eqb-true x 0 q in
    let same : number_from 0 (y ∷ ys) ≡ number_from 0 (x ∷ y ∷ ys) = omega (arith, number_cons x (y ∷ ys), ap (λ (m : ℕ). m * P) n) in
    value_low y ys (leb-false 0x80 y z) ∙ ap pos same ∙ sym (value_low x (y ∷ ys) (omega arith)))
    (λ q r. cond_case (eqb x 0xff) r
    (λ i z.
    let n = eqb-true x 0xff i in
    let same : P - suc (number_from 0 (y ∷ ys)) ≡ 256 ^ suc (suc (length ys)) - suc (number_from 0 (x ∷ y ∷ ys)) =
    omega (arith, number_cons x (y ∷ ys), ap (λ (m : ℕ). m * P) n, pow-suc 256 (suc (length ys)), number_lt (y ∷ ys) (tail x (y ∷ ys) os)) in
    value_high y ys (tail x (y ∷ ys) os) (ltb-false y 0x80 z) ∙ ap negsuc same ∙ sym (value_high x (y ∷ ys) os (omega arith)))
    (λ i z. absurd (true≢false z)))

pub shorten_value : (xs : List ℕ) → Octets xs → value_of (shorten xs) ≡ value_of xs
unfolding shorten shortest
shorten_value [] os = refl
shorten_value (x ∷ []) os = refl
shorten_value (x ∷ y ∷ ys) os =
    by_test (λ zs. value_of zs ≡ value_of (x ∷ y ∷ ys)) (shortest (x ∷ y ∷ ys)) _ _ (λ q. refl) (λ q. shorten_value (y ∷ ys) (tail x (y ∷ ys) os) ∙ value_less x y ys os q)

pub shorten_shortest : (x : ℕ) (xs : List ℕ) → shortest (shorten (x ∷ xs)) ≡ true
unfolding shorten shortest
shorten_shortest x [] = refl
shorten_shortest x (y ∷ ys) = by_test (λ zs. shortest zs ≡ true) (shortest (x ∷ y ∷ ys)) _ _ (λ q. q) (λ q. shorten_shortest y ys)

pub shorten_octets : (xs : List ℕ) → Octets xs → Octets (shorten xs)
unfolding shorten
shorten_octets [] os = octets_none
shorten_octets (x ∷ xs) os = by_test Octets (shortest (x ∷ xs)) _ _ (λ q. os) (λ q. shorten_octets xs (tail x xs os))

-- ---- the leaf

pattern_range : (k : ℕ) (z : ℤ) → in_octets k z ≡ true → pattern_of k z < 256 ^ k
pattern_range k (pos n) h = omega (arith, ltb-true n _ h)
pattern_range k (negsuc n) h = omega (arith, power_some k)

-- more octets that say the same and come to the same without those that are not needed
longer : (j k x : ℕ) (xs : List ℕ) → Octets (x ∷ xs) → j + suc (length xs) ≡ k
    → (ys : List ℕ) × (length ys ≡ k) × Octets ys × (shorten ys ≡ shorten (x ∷ xs)) × (value_of ys ≡ value_of (x ∷ xs))
unfolding shorten shortest
longer zero k x xs os e = (x ∷ xs, omega arith, os, refl, refl)
longer (suc j) k x xs os e =
    let f : ℕ = cond (leb 0x80 x) 0xff 0 in
    let o : Octets (f ∷ x ∷ xs) = octets_cons f (x ∷ xs) (by_test (λ (i : ℕ). i < 256) (leb 0x80 x) 0xff 0 (omega arith) (omega arith)) os in
    let s : shortest (f ∷ x ∷ xs) ≡ false = by_cases (leb 0x80 x) (λ q. rw q (le-ltb x 0x80 (leb-true 0x80 x q))) (λ q. rw q) in
    let r = longer j k f (x ∷ xs) o (omega arith) in
    (r.0, r.1, r.2, r.3 ∙ unpicked _ _ s, r.4 ∙ sym (value_less f x xs o s))

-- shortest octets are those written of their number's pattern
signed_back : (k : ℕ) (xs : List ℕ) → Octets xs → shortest xs ≡ true → in_octets (suc k) (value_of xs) ≡ true → shorten (digits (suc k) (pattern_of (suc k) (value_of xs))) ≡ xs
unfolding shortest
signed_back k [] os s h = absurd (true≢false (sym s))
signed_back k (x ∷ xs) os s h =
    let l = length_in k (x ∷ xs) os s h in
    let r = longer (k - length xs) (suc k) x xs os (omega arith) in
    ap₂ (λ (i : ℕ) (z : ℤ). shorten (digits i (pattern_of i z))) (sym r.1) (sym r.4)
    ∙ ap (λ (p : ℕ). shorten (digits (length r.0) p)) (pattern_value r.0 r.2) ∙ ap shorten (digits_number r.0 r.2) ∙ r.3 ∙ shorten_same (x ∷ xs) s

pub signed_laws : (k : ℕ) → LeafLaws (signed (suc k))
unfolding integer digits
signed_laws k =
    leaf_laws
    (λ xs os. decide (shortest xs) (λ s. decide (in_octets (suc k) (value_of xs)) (λ i.
    fit (sym (signed_back k xs os s i), lt-ltb _ _ (pattern_range (suc k) (value_of xs) i))) (λ i. out)) (λ s. out))
    (λ p v.
    let ds : List ℕ = digits (suc k) p in
    let os = octets_digits (suc k) p in
    let i : in_octets (suc k) (value_of ds) ≡ true = rw (length_digits k p) at (value_in _ (digits k p) os) in
    let q : pattern_of (suc k) (value_of ds) ≡ p = rw (length_digits (suc k) p) at (pattern_value ds os) ∙ number_digits (suc k) p ∙ mod-eq_of_lt (ltb-true p _ v) in
    rw (shorten_shortest _ (digits k p), shorten_value ds os, i, q))
    (λ p v. shorten_octets (digits (suc k) p) (octets_digits (suc k) p))

pub identifier_laws : LeafLaws identifier
unfolding identifier
identifier_laws = signed_laws 1

-- ---- what is written of a pattern, by the bits that it needs

-- contents of one octet: a pattern below 2 ^ 7, and one of the 2 ^ 7 highest
module _ (k : ℕ) where
  one_write : (x : ℕ) (z : ℤ) → x < 256 → value_of (x ∷ []) ≡ z → in_octets (suc k) z ≡ true → shorten (digits (suc k) (pattern_of (suc k) z)) ≡ x ∷ []
  unfolding shortest
  one_write x z h v i =
      ap (λ (y : ℤ). shorten (digits (suc k) (pattern_of (suc k) y))) (sym v) ∙ signed_back k (x ∷ []) (octets_cons x [] h octets_none) refl (ap (in_octets (suc k)) v ∙ i)

  pub low_write : (p : ℕ) → p < 128 → shorten (digits (suc k) p) ≡ p ∷ []
  unfolding number_from
  low_write p h = one_write p (pos p) (omega arith) (value_low p [] h ∙ ap pos (omega arith)) (lt-ltb p _ (omega (arith, half k, power_some k)))

  pub high_write : (x : ℕ) → 128 ≤ x → x < 256 → shorten (digits (suc k) (256 ^ suc k - suc (255 - x))) ≡ x ∷ []
  unfolding number_from
  high_write x l h =
      one_write x (negsuc (255 - x)) h (value_high x [] (octets_cons x [] h octets_none) l ∙ ap negsuc (omega arith)) (lt-ltb (255 - x) _ (omega (arith, half k, power_some k)))

-- all octets of one more: where none of the first nine bits says nothing
pub whole_write : (k p : ℕ) → 128 * 256 ^ k ≤ p → p + 128 * 256 ^ k < 256 ^ suc (suc k) → shorten (digits (suc (suc k)) p) ≡ digits (suc (suc k)) p
unfolding digits
whole_write k p l h =
    let ds : List ℕ = digits (suc (suc k)) p in
    let os = octets_digits (suc (suc k)) p in
    let q : pattern_of (suc (suc k)) (value_of ds) ≡ p = rw (length_digits (suc (suc k)) p) at (pattern_value ds os) ∙ number_digits (suc (suc k)) p ∙ mod-eq_of_lt (omega arith) in
    let y : ℕ = p / 256 ^ k % 256 in
    let i : in_octets (suc k) (value_of (y ∷ digits k p)) ≡ true = rw (length_digits k p) at (value_in y (digits k p) (octets_digits (suc k) p)) in
    shorten_same ds (by_cases (shortest ds) (λ s. s) (λ s. absurd (fewer (value_of ds) q (ap (in_octets (suc k)) (sym (value_less _ y (digits k p) os s)) ∙ i))))
  where
    fewer : (z : ℤ) → pattern_of (suc (suc k)) z ≡ p → in_octets (suc k) z ≡ true → ⊥
    fewer (pos n) q i = omega (arith, half k, ltb-true n _ i)
    fewer (negsuc n) q i = omega (arith, half k, ltb-true n _ i)

-- ---- contents of 16 bits by how many octets they are

judged_at : (k : ℕ) (xs : List ℕ) (z : ℤ) → shortest xs ≡ true → value_of xs ≡ z → in_octets k z ≡ true → integer k xs ≡ Ruling.good (pattern_of k z)
unfolding integer
judged_at k xs z s e h = picked _ _ s ∙ ap (λ (y : ℤ). cond (in_octets k y) (Ruling.good (pattern_of k y)) (Ruling.bad Fault.contents)) e ∙ picked _ _ h

module _ (x : ℕ) where
  pub one_low : x < 128 → integer 2 (x ∷ []) ≡ Ruling.good x
  unfolding shortest number_from
  one_low h = judged_at 2 (x ∷ []) (pos x) refl (value_low x [] h ∙ ap pos (omega arith)) (lt-ltb x 32768 (omega arith))

  pub one_high : 128 ≤ x → x < 256 → integer 2 (x ∷ []) ≡ Ruling.good (0xff00 + x)
  unfolding shortest number_from
  one_high l h =
      judged_at 2 (x ∷ []) (negsuc (255 - x)) refl (value_high x [] (octets_cons x [] h octets_none) l ∙ ap negsuc (omega arith)) (lt-ltb (255 - x) 32768 (omega arith))
      ∙ ap Ruling.good (omega arith)

  pub both_octets : (y : ℕ) → x < 256 → y < 256 → shortest (x ∷ y ∷ []) ≡ true → integer 2 (x ∷ y ∷ []) ≡ Ruling.good (x * 256 + y)
  unfolding number_from
  both_octets y h k s =
      let os = octets_cons x (y ∷ []) h (octets_cons y [] k octets_none) in
      judged_at 2 (x ∷ y ∷ []) _ s refl (value_in x (y ∷ []) os) ∙ ap Ruling.good (pattern_value (x ∷ y ∷ []) os ∙ omega arith)

pub too_many : (xs : List ℕ) → Octets xs → shortest xs ≡ true → 2 < length xs → integer 2 xs ≡ Ruling.bad Fault.contents
unfolding integer
too_many xs os s l = picked _ _ s ∙ unpicked _ _ (unless (in_octets 2 (value_of xs)) (λ q. omega (arith, length_in 1 xs os s q)))

-- ---- an identifier's 16 bits stand for the number that its contents say

number_pattern : (z : ℤ) → in_octets 2 z ≡ true → to_z w16 (pattern_of 2 z) ≡ z
number_pattern (pos n) h = ap (λ t. sel t (pos n) (negsuc (65536 - suc n))) h
number_pattern (negsuc n) h =
    let p : ℕ = 65536 - suc n in
    let b = ltb-true n 32768 h in
    let back : 65536 - suc p ≡ n = omega arith in
    ap (λ t. sel t (pos p) (negsuc (65536 - suc p))) (le-ltb p 32768 (omega arith)) ∙ ap negsuc back

pub read_number : (xs : List ℕ) (p : ℕ) → identifier.judge xs ≡ Ruling.good p → to_z w16 p ≡ value_of xs
unfolding identifier integer
read_number xs p r =
    fitting {P = λ q. to_z w16 q ≡ value_of xs} (decide (shortest xs) (λ s. decide (in_octets 2 (value_of xs)) (λ i. fit (number_pattern (value_of xs) i)) (λ i. out)) (λ s. out)) r

pub written_number : (p : ℕ) → p < 65536 → value_of (identifier.write p) ≡ to_z w16 p
unfolding identifier
written_number p h = sym (read_number (identifier.write p) p (identifier_laws.complete p (lt-ltb p 65536 h)))
