-- Records and arrays: the same octets for another shape.
use Rattle.prelude.proofs.Prelude.{ℕ, zero, suc, ◌-◌, ◌≤◌, ◌≡◌, refl, sym, ap, ap₂, ◌∙◌, List, [], ◌∷◌, ◌++◌, Bool, true, ◌&&◌, true≢false, arith, length, take, drop, replicate}
use Rattle.prelude.proofs.Prelude.{length-append, length-replicate, length-drop, take-append-drop, take-append_seam, drop-append_seam, length-take-le, eqb, leb-true, le-leb, eqb-true}
use Rattle.prelude.proofs.Prelude.{eq-eqb}
use Rattle.coding.specs.Codec.{Run, shape, canonical, same_list, all, pad, padded}
use Rattle.coding.proofs.{Basic.and_left, Basic.and_right, Laws.RunLaws, Combine.over_laws}

pub shape_laws : {A B : Type 0} (to : A → B) (from : B → A) (f : Run A) → ((x : A) → from (to x) ≡ x) → ((y : B) → to (from y) ≡ y)
    → RunLaws f → RunLaws (shape to from f)
unfolding shape
shape_laws to from f back forth F = over_laws to from (λ y. true) f (λ x v. (refl, back x)) (λ y o v. forth y) F

module _ {A : Type 0} (z : A) (isZero : A → Bool) (zero_is : isZero z ≡ true) (is-zero : (x : A) → isZero x ≡ true → x ≡ z) where
  all_zeros : (k : ℕ) → all isZero (replicate k z) ≡ true
  all_zeros zero = refl
  all_zeros (suc k) = rw zero_is (all_zeros k)

  zeros : (xs : List A) → all isZero xs ≡ true → replicate (length xs) z ≡ xs
  zeros [] h = refl
  zeros (x ∷ xs) h = rw (is-zero x (and_left (isZero x) _ h), zeros xs (and_right (isZero x) _ h))

  pub counted_back : (n : ℕ) (xs : List A) → length xs ≤ n → (padded n isZero (pad n z xs, length xs) ≡ true) × (take (length xs) (pad n z xs) ≡ xs)
  unfolding padded pad
  counted_back n xs le =
      let zs = replicate (n - length xs) z in
      let l : length (xs ++ zs) ≡ n = omega (arith, length-append xs zs, length-replicate (n - length xs) z) in
      (rw (le-leb (length xs) n le, l, eq-eqb n n refl, drop-append_seam xs zs) (all_zeros (n - length xs)), take-append_seam xs zs)

  pub counted_forth : (n : ℕ) (p : List A × ℕ) → padded n isZero p ≡ true → (pad n z (take p.1 p.0), length (take p.1 p.0)) ≡ p
  unfolding padded pad
  counted_forth n p o =
      let os = p.0 in
      let c = p.1 in
      let le : c ≤ n = search (and_left, leb-true) in
      let len : length os ≡ n = search (and_left, and_right, eqb-true) in
      let zs : replicate (length (drop c os)) z ≡ drop c os = zeros (drop c os) (search and_right) in
      let tl : length (take c os) ≡ c = length-take-le c os (omega arith) in
      let k : n - c ≡ length (drop c os) = omega (arith, length-drop c os) in
      rw (tl, k, zs, take-append-drop c os)

-- ---- a test of equality

pub record Equal {A : Type 0} (same : A → A → Bool) : Type 0 where
  pub self : (x : A) → same x x ≡ true
  pub equal : (x y : A) → same x y ≡ true → x ≡ y

pub eqb_equal : Equal eqb
eqb_equal = record { self = λ x. eq-eqb x x refl; equal = eqb-true }

pub list_equal : {A : Type 0} (same : A → A → Bool) → Equal same → Equal (same_list same)
list_equal {A} same E = record { self = self; equal = equal }
  where
    self : (xs : List A) → same_list same xs xs ≡ true
    self [] = refl
    self (x ∷ xs) = rw (E.self x) (self xs)

    equal : (xs ys : List A) → same_list same xs ys ≡ true → xs ≡ ys
    equal [] [] e = refl
    equal [] (y ∷ ys) e = absurd (true≢false (sym e))
    equal (x ∷ xs) [] e = absurd (true≢false (sym e))
    equal (x ∷ xs) (y ∷ ys) e = rw (E.equal x y (and_left (same x y) _ e), equal xs ys (and_right (same x y) _ e))

-- a record by its fields
pub pair_equal : {A B : Type 0} (s : A → A → Bool) (t : B → B → Bool) → Equal s → Equal t → Equal (λ (p q : A × B). s p.0 q.0 && t p.1 q.1)
pair_equal s t S T = record {
  self = λ p. rw (S.self p.0) (T.self p.1);
  equal = λ p q e. ap₂ (λ a b. (a, b)) (S.equal p.0 q.0 (and_left (s p.0 q.0) _ e)) (T.equal p.1 q.1 (and_right (s p.0 q.0) _ e));
}

pub via_equal : {A B : Type 0} (out : B → A) (back : A → B) → ((y : B) → back (out y) ≡ y) → (s : A → A → Bool) → Equal s → Equal (λ (x y : B). s (out x) (out y))
via_equal out back law s S = record {
  self = λ y. S.self (out y);
  equal = λ x y e. sym (law x) ∙ ap back (S.equal (out x) (out y) e) ∙ law y;
}

pub canonical_laws : {A B : Type 0} (to : A → B) (from : B → A) (same : B → B → Bool) (f : Run A) → Equal same
    → ((x : A) → f.valid x ≡ true → from (to x) ≡ x) → RunLaws f → RunLaws (canonical to from same f)
unfolding canonical
canonical_laws to from same f E back F =
    over_laws to from (λ y. same (to (from y)) y) f
    (λ x v. (ap (λ z. same (to z) (to x)) (back x v) ∙ E.self (to x), back x v))
    (λ y o v. E.equal (to (from y)) y o) F
