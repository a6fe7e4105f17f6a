-- Laws of a part of the octets and of the number it says.
use Rattle.prelude.proofs.Prelude.{ℕ, suc, ◌+◌, ◌*◌, ◌-◌, ◌≤◌, ◌<◌, arith, add-one, ◌≡◌, refl, sym, List, [], ◌∷◌, ◌++◌, length, get_or, drop, length-drop, length-take, drop-cons, take-suc}
use Rattle.prelude.proofs.Prelude.{get_or-drop, take-add, drop-drop, Bool, true, false, true≢false}
use Rattle.coding.specs.{Reader.part, Contents.number_from, Contents.null, Contents.every, inner.Shown.verdict}
use Rattle.coding.proofs.Basic.{cond_case}

pub part_none : (s : List ℕ) (i j : ℕ) → j ≤ i → part s i j ≡ []
unfolding part
part_none s i j h = let z : j - i ≡ 0 = omega arith in rw z

pub part_cons : (s : List ℕ) (i j : ℕ) → i < j → j ≤ length s → part s i j ≡ get_or s i 0 ∷ part s (i + 1) j
unfolding part
part_cons s i j h l =
    let a : j - i ≡ suc (j - (i + 1)) = omega arith in
    let b : i < length s = omega arith in
    rw (a, drop-cons s i 0 b, add-one)

pub part_length : (s : List ℕ) (i j : ℕ) → j ≤ length s → length (part s i j) ≡ j - i
unfolding part
part_length s i j l = simp (length-take, length-drop) (omega arith)

pub part_more : (s : List ℕ) (i k : ℕ) → i ≤ k → k < length s → part s i (k + 1) ≡ part s i k ++ (get_or s k 0 ∷ [])
unfolding part
part_more s i k h l =
    let a : k + 1 - i ≡ suc (k - i) = omega arith in
    let b : k - i < length (drop i s) = omega (arith, length-drop i s) in
    let d : i + (k - i) ≡ k = omega arith in
    rw (a, take-suc (drop i s) (k - i) 0 b, get_or-drop, d)

pub number_more : (n : ℕ) (xs : List ℕ) (x : ℕ) → number_from n (xs ++ (x ∷ [])) ≡ number_from n xs * 256 + x
unfolding number_from
number_more n [] x = refl
number_more n (y ∷ ys) x = number_more (n * 256 + y) ys x

-- NULL's contents
pub null_none : (s : List ℕ) (i j : ℕ) → j ≤ i → (0, tt {0}) ≡ verdict (tt {0}) (null (part s i j))
unfolding null verdict
null_none s i j h = rw (part_none s i j h)

pub null_some : (s : List ℕ) (i j : ℕ) → i < j → j ≤ length s → (44, tt {0}) ≡ verdict (tt {0}) (null (part s i j))
unfolding null verdict
null_some s i j h l = rw (part_cons s i j h l)

-- octets that all pass, up to a place and one further
pub part_split : (s : List ℕ) (i k j : ℕ) → i ≤ k → k ≤ j → part s i j ≡ part s i k ++ part s k j
unfolding part
part_split s i k j h l =
    let a : j - i ≡ (k - i) + (j - k) = omega arith in
    let b : i + (k - i) ≡ k = omega arith in
    rw (a, take-add, drop-drop, b)

pub every_append : (ok : ℕ → Bool) (xs ys : List ℕ) → every ok xs ≡ true → every ok (xs ++ ys) ≡ every ok ys
unfolding every
every_append ok [] ys h = refl
every_append ok (x ∷ xs) ys h = cond_case (ok x) h (λ q r. rw q (every_append ok xs ys r)) (λ q r. absurd (true≢false (sym r)))

pub every_more : (ok : ℕ → Bool) (s : List ℕ) (i k : ℕ) → i ≤ k → k < length s → every ok (part s i k) ≡ true → ok (get_or s k 0) ≡ true →
    every ok (part s i (k + 1)) ≡ true
unfolding every
every_more ok s i k h l e q = rw (part_more s i k h l, every_append ok _ _ e, q)

pub every_stop : (ok : ℕ → Bool) (s : List ℕ) (i k j : ℕ) → i ≤ k → k < j → j ≤ length s → every ok (part s i k) ≡ true → ok (get_or s k 0) ≡ false →
    every ok (part s i j) ≡ false
unfolding every
every_stop ok s i k j h l m e q =
    let b : k ≤ j = omega arith in
    rw (part_split s i k j h b, every_append ok _ _ e, part_cons s k j l m, q)
