-- Numbers that are not negative, of 1 to 4 octets: how many octets they take, and their laws.
use Rattle.prelude.proofs.Prelude.{ℕ, zero, suc, ◌+◌, ◌*◌, ◌/◌, ◌^◌, ◌≤◌, ◌<◌, ◌≡◌, sym, ap, ◌∙◌, List, [], ◌∷◌, true, false, true≢false, arith, mod-eq_of_lt, pow-le-pow_right}
use Rattle.prelude.proofs.{Prelude.{lt_of_not-le, length, ltb, leb, ℤ, pos, leb-true, leb-false, ltb-true, ltb-false, lt-ltb, le-ltb}, Ways.by_cases}
use Rattle.coding.specs.{Reader.Fault, Reader.Ruling, Contents.number_from, Contents.negative, Contents.value_of, Contents.shortest, Contents.natural, Leaves.digits, Leaves.in_octets}
use Rattle.coding.specs.{Leaves.fewest, Leaves.width, Leaves.number, Leaves.shorten}
use Rattle.coding.proofs.{Basic.picked, Basic.unpicked, Basic.by_test, Basic.and_left, Basic.and_right, Basic.and_both, Laws.Octets, Laws.LeafLaws, Signed.by_sign, Signed.half}
use Rattle.coding.proofs.{Signed.octet_low, Signed.value_low, Signed.shorten_value, Signed.shorten_shortest, Signed.shorten_octets}
pub use Rattle.coding.proofs.Digits.{length_digits, octets_digits, number_digits, digits_number, below, least, Fit, fit, out, judged, fitting, decide, leaf_laws}

-- ---- the width

-- suc j octets of at most suc k: j do not hold the number, and suc j do or are all there are
pub fewest_is : (k j n : ℕ) → j ≤ k → 256 ^ j / 2 ≤ n → (j < k → n < 256 ^ suc j / 2) → fewest k (pos n) ≡ suc j
unfolding fewest
fewest_is zero j n most low high = omega arith
fewest_is (suc k) j n most low high =
    by_cases (ltb j (suc k))
    (λ q.
    let h = ltb-true j (suc k) q in
    let p : 256 ^ suc j ≤ 256 ^ suc k = pow-le-pow_right (omega arith) {i = suc j} {j = suc k} (omega arith) in
    picked _ _ (lt-ltb n (256 ^ suc k / 2) (omega (arith, high h))) ∙ fewest_is k j n (omega arith) low (λ i. high h))
    (λ q. let e : j ≡ suc k = omega (arith, ltb-false j (suc k) q) in unpicked _ _ (le-ltb n (256 ^ suc k / 2) (rw e at low)) ∙ omega arith)

pub fewest_range : (k : ℕ) (z : ℤ) → (1 ≤ fewest k z) × (fewest k z ≤ suc k)
unfolding fewest
fewest_range zero z = omega arith
fewest_range (suc k) z = by_test (λ (w : ℕ). (1 ≤ w) × (w ≤ suc (suc k))) (in_octets (suc k) z) _ _ (λ q. omega (arith, fewest_range k z)) (λ q. omega arith)

pub width_is : (j n : ℕ) → j ≤ 3 → 256 ^ j / 2 ≤ n → (j < 3 → n < 256 ^ suc j / 2) → width n ≡ suc j
unfolding width
width_is = fewest_is 3

pub width_1 : (n : ℕ) → n < 0x80 → width n ≡ 1
width_1 n h = width_is 0 n (omega arith) (omega arith) (λ i. h)

pub width_range : (n : ℕ) → (1 ≤ width n) × (width n ≤ 4)
unfolding width
width_range n = fewest_range 3 (pos n)

-- shortest octets of a number that is not negative are as many as its width
width_number : (xs : List ℕ) → Octets xs → shortest xs ≡ true → negative xs ≡ false → number_from 0 xs < 0x80000000 → width (number_from 0 xs) ≡ length xs
unfolding shortest negative number_from
width_number [] os s g h = absurd (true≢false (sym s))
width_number (x ∷ []) os s g h = width_1 (0 * 256 + x) (omega (arith, leb-false 0x80 x g))
width_number (x ∷ y ∷ xs) os s g h =
    let l = least x y xs os (leb-false 0x80 x g) s in
    let few : length xs < 3 = lt_of_not-le (λ (c : 3 ≤ length xs). omega (arith, pow-le-pow_right {n = 256} (omega arith) {i = 3} {j = length xs} c)) in
    width_is (suc (length xs)) _ (omega arith) (omega (arith, half (length xs))) (λ i. omega (arith, half (suc (length xs)), below x (y ∷ xs) os (leb-false 0x80 x g)))

-- such octets are those written of their number,
pub width_digits : (xs : List ℕ) → Octets xs → shortest xs ≡ true → negative xs ≡ false → number_from 0 xs < 0x80000000
    → digits (width (number_from 0 xs)) (number_from 0 xs) ≡ xs
width_digits xs os s g h = rw (width_number xs os s g h) (digits_number xs os)

-- and those written of a number are such: four octets without those that are not needed
module _ (n : ℕ) (h : n < 0x80000000) where
  four_shortest : let xs = shorten (digits 4 n) in (shortest xs ≡ true) × (negative xs ≡ false) × (number_from 0 xs ≡ n)
  unfolding digits
  four_shortest =
      let xs : List ℕ = shorten (digits 4 n) in
      let v : value_of xs ≡ pos n =
      shorten_value (digits 4 n) (octets_digits 4 n) ∙ value_low _ (digits 3 n) (octet_low 3 n h) ∙ ap pos (number_digits 4 n ∙ mod-eq_of_lt (omega arith)) in
      let is = by_sign (λ z. z ≡ pos n → (negative xs ≡ false) × (number_from 0 xs ≡ n)) xs (shorten_octets _ (octets_digits 4 n)) (λ q e. (q, cc)) (λ q e. (cc, cc)) v in
      (shorten_shortest _ (digits 3 n), is.0, is.1)

  pub width_shorten : digits (width n) n ≡ shorten (digits 4 n)
  width_shorten =
      let (s, g, e) = four_shortest in
      rw e at (width_digits (shorten (digits 4 n)) (shorten_octets (digits 4 n) (octets_digits 4 n)) s g (omega arith))

  pub width_written : let xs = digits (width n) n in (shortest xs ≡ true) × (negative xs ≡ false) × (number_from 0 xs ≡ n)
  width_written = rw width_shorten four_shortest

  -- the width is the length of the shortest form
  pub width_shortest : width n ≡ length (shorten (digits 4 n))
  width_shortest = sym (length_digits (width n) n) ∙ ap length width_shorten

-- ---- the leaf

pub number_laws : (low high : ℕ) → high < 0x80000000 → LeafLaws (number low high)
unfolding number natural
number_laws low high hh =
    leaf_laws
    (λ xs os. let m : ℕ = number_from 0 xs in
    decide (shortest xs) (λ s. decide (negative xs) (λ g. out) (λ g. decide (leb low m) (λ l. decide (leb m high) (λ h.
    fit (sym (width_digits xs os s g (omega (arith, leb-true m high h))), and_both (leb low m) _ l h)) (λ h. out)) (λ l. out))) (λ s. out))
    (λ n v.
    let h = and_right (leb low n) (leb n high) v in
    let d = width_written n (omega (arith, leb-true n high h)) in
    rw (d.0, d.1, d.2, and_left (leb low n) (leb n high) v, h))
    (λ n v. octets_digits (width n) n)

-- contents that are not shortest are told as such, whatever number they say
pub natural_shortest : (low high : ℕ) (xs : List ℕ) → shortest xs ≡ false → natural low high xs ≡ Ruling.bad Fault.shortest
unfolding natural
natural_shortest low high xs h = unpicked _ _ h
