-- Length octets with a number: any form is read, the shortest is written, none is shorter, and it is the only one so short.
use Rattle.prelude.proofs.Prelude.{ℕ, ◌+◌, ◌-◌, ◌*◌, ◌/◌, ◌%◌, ◌≤◌, ◌<◌, ◌≡◌, refl, ◌∙◌, List, [], ◌∷◌, cond, arith, length, get_or, ltb, leb, eqb, ltb-true, ltb-false, leb-true, eqb-true}
use Rattle.prelude.proofs.Prelude.{lt-ltb, le-ltb, le-leb, lt-leb}
use Rattle.coding.specs.{declared.Extent.Extent, Reader.Ans, Reader.got, Reader.halt, Reader.extent, Reader.numbered_at, Reader.Fault.cut, Codec.LengthForm, Codec.short, Codec.one}
use Rattle.coding.specs.{Codec.two, Codec.length_octets, Codec.Holds}
use Rattle.coding.proofs.{Basic.Given, Basic.it, Basic.void, Basic.choose, Basic.by_test, Basic.octets_none, Basic.octets_cons, Laws.Octets}

-- ---- reading a length

-- what is found where a length is read
abbrev pub Found : List ℕ → ℕ → ℕ → Extent → ℕ → Type 0
Found s p e x n = LengthForm s p (n - x.start) x.start × (x.start ≤ n) × (x.stop ≡ n) × (n ≤ e)

placed : {s : List ℕ} {p c k : ℕ} (tag e : ℕ) → LengthForm s p k c → Given (Found s p e) (extent tag c k e)
unfolding extent
placed {c = c} {k = k} tag e f = let back : c + k - c ≡ k = omega arith in choose (leb (c + k) e) (λ q. it (rw back f, omega arith, refl, leb-true (c + k) e q)) (λ q. void)

pub number_given : (tag : ℕ) (s : List ℕ) (p e : ℕ) → Given (Found s p e) (numbered_at tag s p e)
unfolding numbered_at
number_given tag s p e =
    let o : ℕ = get_or s p 0 in
    choose (leb e p) (λ i. void) (λ i. choose (ltb o 128) (λ q. placed tag e (short (ltb-true o 128 q) refl refl)) (λ q.
    choose (eqb o 0x81) (λ r. choose (ltb e (p + 2)) (λ j. void) (λ j. placed tag e (one (eqb-true o 0x81 r) refl refl))) (λ r.
    choose (eqb o 0x82) (λ z. choose (ltb e (p + 3)) (λ j. void) (λ j. placed tag e (two (eqb-true o 0x82 z) refl refl))) (λ z. void))))

-- ---- any form is read

pub length_forward : {s : List ℕ} {p k c : ℕ} → LengthForm s p k c → p < c
length_forward (short l q r) = omega arith
length_forward (one l q r) = omega arith
length_forward (two l q r) = omega arith

abbrev pub counted : ℕ → ℕ → Ans Extent
counted c k = got (record { start = c; stop = c + k }) (c + k)

-- length octets that say a number are read by it, if they stand inside
pub numbered : (tag : ℕ) (s : List ℕ) (p e k c : ℕ) → p < e → LengthForm s p k c → numbered_at tag s p e ≡ cond (ltb e c) (halt cut tag) (extent tag c k e)
unfolding numbered_at
numbered tag s p e k c h (short l q r) =
    let small : k < 128 = omega arith in
    let in_it : c ≤ e = omega arith in
    simp (lt-leb e p h, q, lt-ltb, r, le-ltb)
numbered tag s p e k c h (one l q r) = simp (lt-leb e p h, l, q, r)
numbered tag s p e k c h (two l q r) = simp (lt-leb e p h, l, q, r)

pub number_complete : (tag : ℕ) (s : List ℕ) (p e k c : ℕ) → c + k ≤ e → LengthForm s p k c → numbered_at tag s p e ≡ counted c k
unfolding extent
number_complete tag s p e k c h f = numbered tag s p e k c (omega (arith, length_forward f)) f ∙ simp (le-ltb e c (omega arith), le-leb)

-- ---- the shortest is written, and none is shorter

-- what holds of each of the three forms, where it is the one written, holds of the one that is written
length_by : (P : List ℕ → Type 0) (n : ℕ) → (n < 128 → P (n ∷ [])) → (128 ≤ n → n < 256 → P (129 ∷ n ∷ [])) → (256 ≤ n → P (130 ∷ n / 256 ∷ n % 256 ∷ []))
    → P (length_octets n)
unfolding length_octets
length_by P n a b c =
    by_test P (ltb n _) _ _ (λ q. a (omega (arith, ltb-true n _ q)))
    (λ q. by_test P (ltb n _) _ _ (λ r. b (omega (arith, ltb-false n _ q)) (omega (arith, ltb-true n _ r))) (λ r. c (omega (arith, ltb-false n _ r))))

pub length_written : (s : List ℕ) (p k : ℕ) → k ≤ 65535 → Holds s p (length_octets k) → LengthForm s p k (p + length (length_octets k))
length_written s p k b =
    let e : p + 1 + 1 ≡ p + 2 = omega arith in
    length_by (λ xs. Holds s p xs → LengthForm s p k (p + length xs)) k
    (λ l h. short (omega (arith, l, h.1)) h.1 refl) (λ l u h. one h.1 h.2.1 refl)
    (λ l h. two h.1 (omega (arith, h.2.1, rw e at h.2.2.1)) refl)

-- it takes three octets at most, and two below 256
pub length_most : (n : ℕ) → length (length_octets n) ≤ 3
length_most n = length_by (λ xs. length xs ≤ 3) n (omega arith) (omega arith) (omega arith)

pub length_few : (n : ℕ) → n < 256 → length (length_octets n) ≤ 2
length_few n h = length_by (λ xs. length xs ≤ 2) n (omega arith) (omega arith) (omega arith)

pub length_octets_lem : (n : ℕ) → n ≤ 65535 → Octets (length_octets n)
length_octets_lem n h =
    length_by Octets n
    (λ l. octets_cons n [] (omega arith) octets_none)
    (λ l u. octets_cons 129 (n ∷ []) (omega arith) (octets_cons n [] u octets_none))
    (λ l. octets_cons 130 (n / 256 ∷ n % 256 ∷ []) (omega arith) (octets_cons (n / 256) (n % 256 ∷ []) (omega arith) (octets_cons (n % 256) [] (omega arith) octets_none)))

-- a form by the number of its octets, and how many it takes at least
form_size : {s : List ℕ} {p k c : ℕ} → LengthForm s p k c
    → (c ≡ p + 1 → get_or s p 0 ≡ k) × (c ≡ p + 2 → (get_or s p 0 ≡ 129) × (get_or s (p + 1) 0 ≡ k))
    × (c ≡ p + 3 → (get_or s p 0 ≡ 130) × (get_or s (p + 1) 0 * 256 + get_or s (p + 2) 0 ≡ k)) × (128 ≤ k → p + 2 ≤ c) × (256 ≤ k → get_or s (p + 1) 0 < 256 → p + 3 ≤ c)
form_size (short l q r) = omega arith
form_size (one l q r) = omega arith
form_size (two l q r) = omega arith

-- the number of length octets of a smaller number is no more than any form of a larger takes
pub length_shortest : (s : List ℕ) (p n c m : ℕ) → Octets s → m ≤ n → LengthForm s p n c → p + length (length_octets m) ≤ c
length_shortest s p n c m os le f =
    let x = form_size f in
    length_by (λ xs. p + length xs ≤ c) m (λ l. omega (arith, length_forward f)) (λ l u. x.3 (omega arith)) (λ l. x.4 (omega arith) (os (p + 1)))

-- a form that takes as many octets as the one written is that one
pub length_only : (s : List ℕ) (p n c : ℕ) → Octets s → c ≤ length s → c ≡ p + length (length_octets n) → LengthForm s p n c → Holds s p (length_octets n)
length_only s p n c os cs e f =
    let x = form_size f in
    let k : p + 1 + 1 ≡ p + 2 = omega arith in
    length_by (λ xs. c ≡ p + length xs → Holds s p xs) n (λ l q. omega (arith, x.0 q)) (λ l u q. omega (arith, x.1 q))
    (λ l q. rw k (omega (arith, x.2 q, os (p + 2)))) e
