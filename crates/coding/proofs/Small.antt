-- Elements of few octets as they are written, and the sizes that a writer adds up.
use Rattle.prelude.proofs.Prelude.{ℕ, suc, ◌+◌, ◌-◌, ◌/◌, ◌%◌, ◌^◌, ◌≤◌, ◌<◌, ◌≡◌, refl, ap, ap₂, ◌∙◌, List, [], ◌∷◌, ◌++◌, Bool, arith, length, take, length-append, length-take-le}
use Rattle.coding.specs.{Contents.shortest, Codec.length_octets, Codec.prim, Leaves.digits, Leaves.null_leaf, Leaves.shorten, Leaves.identifier, Leaves.string}
use Rattle.coding.specs.{inner.Written.lead, inner.Written.full_number}
use Rattle.coding.proofs.{Basic.by_test, Number.width_1, Signed.low_write, Signed.high_write, Signed.whole_write, Writing.lead_length_short, Writing.lead_length_long, Writing.prim_write}

-- ---- tag and length octets

-- an element of n octets of contents, with its tag and length octets
pub element_short : (n : ℕ) → n < 128 → (tag : ℕ) → n + 2 ≡ length (lead tag n) + n
element_short n h tag = omega (arith, lead_length_short tag n h)

pub element_long : (n : ℕ) → 128 ≤ n → n < 256 → (tag : ℕ) → n + 3 ≡ length (lead tag n) + n
element_long n l h tag = omega (arith, lead_length_long tag n l h)

-- ---- NULL

pub null_write : (tag : ℕ) (x : Unit {0}) → (prim tag null_leaf).write x ≡ lead tag 0
unfolding null_leaf lead prim length_octets
null_write tag x = refl

pub null_length : (tag : ℕ) → length (lead tag 0) ≡ 2
null_length tag = lead_length_short tag 0 (omega arith)

-- ---- numbers of one octet

pub small_number : (tag x : ℕ) → x < 128 → full_number tag x ≡ tag ∷ 1 ∷ x ∷ []
unfolding full_number lead length_octets digits
small_number tag x h = let m : x / 1 % 256 ≡ x = omega arith in rw (width_1 x h, m)

pub small_length : (tag x : ℕ) → x < 128 → length (full_number tag x) ≡ 3
small_length tag x h = ap length (small_number tag x h)

-- ---- identifiers

-- a pattern's two octets
pair_octets : (p : ℕ) → digits 2 p ≡ p / 256 % 256 ∷ p % 256 ∷ []
unfolding digits
pair_octets p = ap₂ (λ (a b : ℕ). a ∷ b ∷ []) (omega arith) (omega arith)

pub id_low_write : (p : ℕ) → p < 128 → identifier.write p ≡ p ∷ []
unfolding identifier
id_low_write = low_write 1

pub id_high_write : (p : ℕ) → 256 ^ 2 - 128 ≤ p → p < 256 ^ 2 → identifier.write p ≡ p % 256 ∷ []
unfolding identifier
id_high_write p l h = let e : p ≡ 256 ^ 2 - suc (255 - p % 256) = omega arith in ap (λ (n : ℕ). shorten (digits 2 n)) e ∙ high_write 1 (p % 256) (omega arith) (omega arith)

pub id_two_write : (p : ℕ) → 128 ≤ p → p < 256 ^ 2 - 128 → identifier.write p ≡ p / 256 ∷ p % 256 ∷ []
unfolding identifier
id_two_write p l h = let top : p / 256 % 256 ≡ p / 256 = omega arith in whole_write 0 p (omega arith) (omega arith) ∙ pair_octets p ∙ ap (λ (n : ℕ). n ∷ p % 256 ∷ []) top

pub id_range : (p : ℕ) → (1 ≤ length (identifier.write p)) × (length (identifier.write p) ≤ 2)
unfolding identifier shorten shortest
id_range p =
    let two : List ℕ = p / 256 % 256 ∷ p % 256 ∷ [] in
    rw (pair_octets p) (by_test (λ xs. (1 ≤ length xs) × (length xs ≤ 2)) (shortest two) two (p % 256 ∷ []) (omega arith) (omega arith))

pub id_low : (tag p : ℕ) → p < 128 → (prim tag identifier).write p ≡ tag ∷ 1 ∷ p ∷ []
unfolding prim length_octets
id_low tag p h = rw (id_low_write p h)

pub id_high : (tag p : ℕ) → 256 ^ 2 - 128 ≤ p → p < 256 ^ 2 → (prim tag identifier).write p ≡ tag ∷ 1 ∷ p % 256 ∷ []
unfolding prim length_octets
id_high tag p l h = rw (id_high_write p l h)

pub id_two : (tag p : ℕ) → 128 ≤ p → p < 256 ^ 2 - 128 → (prim tag identifier).write p ≡ tag ∷ 2 ∷ p / 256 ∷ p % 256 ∷ []
unfolding prim length_octets
id_two tag p l h = rw (id_two_write p l h)

pub id_length : (tag p : ℕ) → length ((prim tag identifier).write p) ≡ 2 + length (identifier.write p)
id_length tag p =
    ap length (prim_write tag identifier p)
    ∙ omega (
      arith,
      length-append (lead tag (length (identifier.write p))) (identifier.write p),
      lead_length_short tag (length (identifier.write p)) (omega (arith, id_range p)),
    )

-- ---- strings

-- the first n octets of an array as a string's element
pub string_write : (tag low high : ℕ) (ok : ℕ → Bool) (s : List ℕ) (n : ℕ) → n ≤ length s
    → (prim tag (string low high ok)).write (take n s) ≡ tag ∷ length_octets n ++ take n s
unfolding string prim
string_write tag low high ok s n h = ap (λ (k : ℕ). tag ∷ length_octets k ++ take n s) (length-take-le n s h)

pub string_length : (tag n : ℕ) (s : List ℕ) → n ≤ length s → length (tag ∷ length_octets n ++ take n s) ≡ length (lead tag n) + n
unfolding lead
string_length tag n s h = omega (arith, length-append (length_octets n) (take n s), length-take-le n s h)
