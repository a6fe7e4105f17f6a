-- Small facts about answers, tests, tags and octets in place.
use Rattle.prelude.proofs.Prelude.{ℕ, zero, suc, ◌+◌, ◌≤◌, ◌<◌, ◌≡◌, refl, sym, ap, ◌∙◌, subst, List, [], ◌∷◌, ◌++◌, Bool, true, false, not, ◌&&◌, ◌||◌, true≢false, cond, ◌⊎◌, inl, inr}
use Rattle.prelude.proofs.Prelude.{arith, add-one, add-zero, length, get_or, take, drop, length-append, drop-cons, take-append_seam, drop-append_seam, eqb, eqb-true, not-true}
use Rattle.coding.specs.{Reader.Ans, Reader.Fault, Reader.got, Reader.halt, Reader.after, Codec.Holds, Codec.one_of, Codec.apart}
use Rattle.coding.proofs.Laws.{Octets}

-- ---- answers

pub never : {A : Type 0} {k : Fault} {p n : ℕ} {a : A} → halt k p ≡ got a n → ⊥
never e = let z : ◌≡◌ {A = ℕ} 0 1 = cc in omega arith

module _ {A : Type 0} where
  pub either_way : (t : Bool) (r q : Ans A) {a : A} {n : ℕ} → cond t r q ≡ got a n → ((t ≡ true) × (r ≡ got a n)) ⊎ ((t ≡ false) × (q ≡ got a n))
  either_way true r q e = inl (refl, e)
  either_way false r q e = inr (refl, e)

  pub chain : {B : Type 0} (r : Ans A) (k : A → ℕ → Ans B) {b : B} {m : ℕ} → after r k ≡ got b m
      → (a : A) × (n : ℕ) × (r ≡ got a n) × (k a n ≡ got b m)
  unfolding after
  chain (got a n) k e = (a, n, refl, e)
  chain (halt j p) k e = absurd (never e)

  -- a fact about a value and a place that are read holds of what they are equal to
  pub same_got : (P : A → ℕ → Type 0) {a b : A} {n m : ℕ} → got a n ≡ got b m → P a n → P b m
  same_got P {a} {b} {n} {m} e p =
      let x : a ≡ b = cc in
      let y : n ≡ m = cc in
      rw (x, y) at p

  pub picked : {t : Bool} (x y : A) → t ≡ true → cond t x y ≡ x
  picked x y e = ap (λ t. cond t x y) e

  pub unpicked : {t : Bool} (x y : A) → t ≡ false → cond t x y ≡ y
  unpicked x y e = ap (λ t. cond t x y) e

  pub followed : {B : Type 0} {r : Ans A} (k : A → ℕ → Ans B) {a : A} {n : ℕ} → r ≡ got a n → after r k ≡ k a n
  unfolding after
  followed k e = ap (λ r. after r k) e

  -- what follows matters only at what is read
  pub after_same : {B : Type 0} (r : Ans A) {g h : A → ℕ → Ans B} → ((v : A) (n : ℕ) → r ≡ got v n → g v n ≡ h v n) → after r g ≡ after r h
  unfolding after
  after_same (got v n) same = same v n refl
  after_same (halt w p) same = refl

-- ---- what holds of whatever is read

pub data Given {A : Type 0} (P : A → ℕ → Type 0) : Ans A → Type 0 where
  it : {a : A} {n : ℕ} → P a n → Given P (got a n)
  void : {k : Fault} {p : ℕ} → Given P (halt k p)

module _ {A : Type 0} {P : A → ℕ → Type 0} where
  pub granted : (r : Ans A) → ((a : A) (n : ℕ) → r ≡ got a n → P a n) → Given P r
  granted (got a n) h = it (h a n refl)
  granted (halt k p) h = void

  pub known : {r : Ans A} {a : A} {n : ℕ} → Given P r → r ≡ got a n → P a n
  known (it p) e = same_got P e p
  known void e = absurd (never e)

  pub choose : (t : Bool) {x y : Ans A} → (t ≡ true → Given P x) → (t ≡ false → Given P y) → Given P (cond t x y)
  choose true f g = f refl
  choose false f g = g refl

  pub weaken : {Q : A → ℕ → Type 0} {r : Ans A} → Given P r → ((a : A) (n : ℕ) → P a n → Q a n) → Given Q r
  weaken (it p) f = it (f _ _ p)
  weaken void f = void

  pub bind : {B : Type 0} {Q : B → ℕ → Type 0} {r : Ans A} {k : A → ℕ → Ans B} → Given P r → ((a : A) (n : ℕ) → P a n → Given Q (k a n)) → Given Q (after r k)
  unfolding after
  bind (it p) f = f _ _ p
  bind void f = void

-- ---- tests

pub by_test : {A : Type 0} (P : A → Type 0) (t : Bool) (x y : A) → (t ≡ true → P x) → (t ≡ false → P y) → P (cond t x y)
by_test P true x y this that = this refl
by_test P false x y this that = that refl

pub cond_case : {A T : Type 0} (t : Bool) {x y z : A} → cond t x y ≡ z → (t ≡ true → x ≡ z → T) → (t ≡ false → y ≡ z → T) → T
cond_case true e f g = f refl e
cond_case false e f g = g refl e

pub both : {A : Type 0} {z : A} (t : Bool) {x y : A} → (t ≡ true → x ≡ z) → (t ≡ false → y ≡ z) → cond t x y ≡ z
both true f g = f refl
both false f g = g refl

pub unless : (b : Bool) → (b ≡ true → ⊥) → b ≡ false
unless true h = absurd (h refl)
unless false h = refl

pub and_no : (a b : Bool) → b ≡ false → a && b ≡ false
and_no true b e = e
and_no false b e = refl

pub and_left : (a b : Bool) → a && b ≡ true → a ≡ true
and_left true b e = refl
and_left false b e = e

pub and_right : (a b : Bool) → a && b ≡ true → b ≡ true
and_right true b e = e
and_right false b e = absurd (true≢false (sym e))

pub and_both : (a b : Bool) → a ≡ true → b ≡ true → a && b ≡ true
and_both true b p q = q
and_both false b p q = p

-- p is false where `l` is not, and so q
pub or_split : (l p q : Bool) → l || not (p || q) ≡ true → (l || not p ≡ true) × (l || not q ≡ true)
or_split true p q e = (refl, refl)
or_split false true q e = absurd (true≢false (sym e))
or_split false false q e = (refl, e)

pub or_no : (l p : Bool) → p ≡ false → l || not p ≡ true
or_no true p e = refl
or_no false p e = ap not e

pub or-false : (b : Bool) → b || false ≡ true → b ≡ true
or-false true z = refl
or-false false z = z

pub or_case : {T : Type 0} (a b : Bool) → a || b ≡ true → (a ≡ true → T) → (b ≡ true → T) → T
or_case true b e f g = f refl
or_case false b e f g = g e

pub or_on : (a b : Bool) → b ≡ true → a || b ≡ true
or_on true b e = refl
or_on false b e = e

-- ---- tags

pub has_left : (xs ys : List ℕ) (o : ℕ) → one_of xs o ≡ true → one_of (xs ++ ys) o ≡ true
unfolding one_of
has_left [] ys o e = absurd (true≢false (sym e))
has_left (x ∷ xs) ys o e = or_case (eqb o x) _ e (λ q. rw q) (λ q. or_on (eqb o x) _ (has_left xs ys o q))

pub has_right : (xs ys : List ℕ) (o : ℕ) → one_of ys o ≡ true → one_of (xs ++ ys) o ≡ true
unfolding one_of
has_right [] ys o e = e
has_right (x ∷ xs) ys o e = or_on (eqb o x) _ (has_right xs ys o e)

-- an octet that is one of the tags is not in a set that they are apart from
pub apart_has : (ts : List ℕ) (p : ℕ → Bool) (o : ℕ) → apart ts p ≡ true → one_of ts o ≡ true → p o ≡ false
unfolding one_of apart
apart_has [] p o h e = absurd (true≢false (sym e))
apart_has (t ∷ ts) p o h e =
    or_case (eqb o t) _ e (λ q. ap p (eqb-true o t q) ∙ not-true (p t) (and_left (not (p t)) _ h)) (apart_has ts p o (and_right (not (p t)) _ h))

-- ---- octets in place

pub holds_split : (s : List ℕ) (a : ℕ) (xs ys : List ℕ) → Holds s a (xs ++ ys) → Holds s a xs × Holds s (a + length xs) ys
holds_split s a [] ys h = (tt, rw add-zero h)
holds_split s a (x ∷ xs) ys h =
    let e : a + suc (length xs) ≡ a + 1 + length xs = omega arith in
    let r = holds_split s (a + 1) xs ys h.2 in
    ((h.0, h.1, r.0), rw e r.1)

-- the part of s that holds xs is xs
pub holds_part : (s : List ℕ) (a : ℕ) (xs : List ℕ) → Holds s a xs → take (length xs) (drop a s) ≡ xs
holds_part s a [] h = refl
holds_part s a (x ∷ xs) h = rw (drop-cons s a 0 h.0, h.1, rw add-one at (holds_part s (a + 1) xs h.2))

-- and holds it where it is
pub part_holds : (s : List ℕ) (a : ℕ) (xs : List ℕ) → a + length xs ≤ length s → take (length xs) (drop a s) ≡ xs → Holds s a xs
part_holds s a [] h e = tt
part_holds s a (x ∷ xs) h e =
    let some : a < length s = omega (arith, h) in
    let l : get_or s a 0 ∷ take (length xs) (drop (suc a) s) ≡ x ∷ xs = ap (take (suc (length xs))) (sym (drop-cons s a 0 some)) ∙ e in
    let head : get_or s a 0 ≡ x = cc in
    let rest : take (length xs) (drop (suc a) s) ≡ xs = cc in
    (some, head, part_holds s (a + 1) xs (omega (arith, h)) (ap (λ (k : ℕ). take (length xs) (drop k s)) (add-one a) ∙ rest))

-- anything before it, and anything after
pub holds_there : (pre xs post : List ℕ) → Holds (pre ++ (xs ++ post)) (length pre) xs
holds_there pre xs post =
    part_holds _ (length pre) xs (omega (arith, length-append pre (xs ++ post), length-append xs post)) (rw (drop-append_seam pre (xs ++ post), take-append_seam xs post))

pub holds_both : (s : List ℕ) (a : ℕ) (xs ys : List ℕ) → Holds s a xs → Holds s (a + length xs) ys → Holds s a (xs ++ ys)
holds_both s a [] ys p q = subst (λ (k : ℕ). Holds s k ys) (add-zero a) q
holds_both s a (x ∷ xs) ys p q =
    let e : a + suc (length xs) ≡ a + 1 + length xs = omega arith in
    (p.0, p.1, holds_both s (a + 1) xs ys p.2 (rw e at q))

-- ---- octets

pub octets_none : Octets []
octets_none i = omega arith

pub octets_cons : (x : ℕ) (xs : List ℕ) → x < 256 → Octets xs → Octets (x ∷ xs)
octets_cons x xs h os zero = h
octets_cons x xs h os (suc i) = os i

pub octets_both : (xs ys : List ℕ) → Octets xs → Octets ys → Octets (xs ++ ys)
octets_both [] ys p q = q
octets_both (x ∷ xs) ys p q = octets_cons x (xs ++ ys) (p 0) (octets_both xs ys (λ i. p (suc i)) q)
