-- The tests of a component's parts, in the order in which the code makes them.
use Rattle.prelude.proofs.Prelude.{ℕ, ◌+◌, ◌-◌, ◌≤◌, ◌<◌, ◌≡◌, refl, sym, ap, ap₂, ◌∙◌, List, [], ◌∷◌, ◌++◌, Bool, true, false, ◌&&◌, ◌||◌, cond, arith, length, get_or, take}
use Rattle.prelude.proofs.Prelude.{drop, length-drop, take-take, take_all, drop-drop, drop-append_seam, replicate, ltb, leb, eqb, lt-ltb, eq-eqb, ne_eqb, eqb-true, eqb-false}
use Rattle.prelude.proofs.{Prelude.{leb-true, le-leb, lt-leb, ltb-true}, Ways.by_cases}
use Rattle.coding.{specs.Reader.part, specs.Contents.every, specs.Codec.all, specs.Codec.same_list, proofs.Parts.part_length, proofs.Parts.part_split}
use Rattle.coding.{specs.Codec.sort, specs.Codec.canonical, specs.Codec.over, specs.Codec.nothing, specs.Codec.Run, specs.Codec.cons}
use Rattle.coding.proofs.Tests.{ands, and-true, and_assoc}
use Rattle.types.specs.{declared.Association.Association, declared.Charge.Charge, Stored.association_in}
use Rattle.types.specs.{Charges.no_association, Charges.same_association, Charges.party_number}
use Rattle.trunk_types.specs.{declared.Lead.Lead, declared.Trunk.Trunk, Components.trunk_component}
use Rattle.trunk_types.specs.{Stored.modes_in, Stored.extension_in, Stored.lead_in, Stored.body_in, Stored.trunk_in}
use Rattle.trunk_types.specs.Extensions.{no_extension, same_extension, in_one, in_list, extension_at, unextended, any_extension}
use Rattle.trunk_read_extensions.specs.inner.Judges.{inside_of}
use Rattle.write_tests.proofs.{Truth.same_truth, Tests.{counted_is, zeros_below, few_taken, first_part}}
use Rattle.trunk_write_tests.specs.inner.Fine.{lead_fine, form_of, trunk_fine, number_if, detail_fine, entity_fine, some_modes, modes_fine, user_fine}
use Rattle.trunk_write_tests.specs.inner.Fine.{charge_fits, most_extension, extension_fine, inner_fine, body_fine, front_fits}
use Rattle.trunk_write_tests.proofs.Components.{component_fine}

-- a test for zero, as a type has it
pub zero_eqb : (n : ℕ) → eqb n 0 ≡ eqb 0 n
zero_eqb n = same_truth (eqb n 0) (eqb 0 n) (λ h. eq-eqb 0 n (sym (eqb-true n 0 h))) (λ h. eq-eqb n 0 (sym (eqb-true 0 n h)))

-- ---- the modes, where they lie in the front

-- a part of a part
take_part : (s : List ℕ) (a e n : ℕ) → a + n ≤ e → take n (part s a e) ≡ part s a (a + n)
unfolding part
take_part s a e n h =
    let k : a + n - a ≡ n = omega arith in
    rw k (take-take n (e - a) (drop a s) (omega arith))

six_seven : (x : ℕ) → leb x 6 ≡ ltb x 7
six_seven x = same_truth (leb x 6) (ltb x 7) (λ h. lt-ltb x 7 (omega (arith, leb-true x 6 h))) (λ h. le-leb x 6 (omega (arith, ltb-true x 7 h)))

up_to : (xs : List ℕ) → all (λ n. leb n 6) xs ≡ every (λ x. ltb x 7) xs
unfolding every
up_to [] = refl
up_to (x ∷ xs) = ap₂ (λ (t u : Bool). t && u) (six_seven x) (up_to xs) ∙ go (ltb x 7) (every (λ y. ltb y 7) xs)
  where
    go : (a b : Bool) → a && b ≡ cond a b false
    go true b = refl
    go false b = refl

all_zero : (q : List ℕ) → same_list eqb (replicate (length q) 0) q ≡ every (λ x. ltb x 1) q
all_zero q =
    let z : length q ≤ length q = omega arith in
    zeros_below 0 (length q) q refl ∙ ap (every (λ x. ltb x 1)) (sym (first_part (length q) q) ∙ take_all (length q) q z)

drop_part : (s : List ℕ) (a e n : ℕ) → a + n ≤ e → e ≤ length s → drop n (part s a e) ≡ part s (a + n) e
drop_part s a e n h l =
    let k : length (part s a (a + n)) ≡ n = part_length s a (a + n) (omega arith) ∙ omega arith in
    rw (part_split s a (a + n) e (omega arith) h)
    (ap (λ (i : ℕ). drop i (part s a (a + n) ++ part s (a + n) e)) (sym k) ∙ drop-append_seam (part s a (a + n)) (part s (a + n) e))

module _ (s : List ℕ) (e : length s ≡ 48) where
  abbrev n : ℕ
  n = get_or s 8 0

  places_length : length (part s 9 16) ≡ 7
  places_length = part_length s 9 16 (omega arith)

  none_asked : (k : ℕ) → (k ≡ 59 → ⊥) → modes_fine k (modes_in s) ≡ eqb 0 n && every (λ x. ltb x 1) (part s 9 16)
  unfolding modes_fine
  none_asked k h =
      rw (ne_eqb k 59 h)
      (ap (λ (t : Bool). eqb 0 n && t) (ap (λ (i : ℕ). same_list eqb (replicate i 0) (part s 9 16)) (sym places_length) ∙ all_zero (part s 9 16)))

  some_asked : (k : ℕ) → k ≡ 59 → modes_fine k (modes_in s) ≡ (leb n 7 && every (λ x. ltb x 1) (part s (9 + n) 16)) && every (λ x. ltb x 7) (part s 9 (9 + n))
  unfolding modes_fine some_modes
  some_asked k r =
      rw (eq-eqb k 59 r)
      (ap₂ (λ (t u : Bool). t && (u && all (λ x. leb x 6) (take n (part s 9 16)))) (counted_is n 7 (part s 9 16) places_length) (few_taken n 7 (part s 9 16) places_length)
      ∙ by_cases (leb n 7)
      (λ q.
      let h = leb-true n 7 q in
      let d = drop_part s 9 16 n (omega arith) (omega arith) in
      rw (q, d, all_zero (part s (9 + n) 16), take_part s 9 16 n (omega arith), up_to (part s 9 (9 + n))))
      (λ q. rw q))

  -- with the count as the code has it
  module _ {m : ℕ} (is : m ≡ n) where
    pub modes_none : (k : ℕ) → (k ≡ 59 → ⊥) → modes_fine k (modes_in s) ≡ eqb 0 m && every (λ x. ltb x 1) (part s 9 16)
    modes_none k h = rw is (none_asked k h)

    pub some_modes_lem : (k : ℕ) → k ≡ 59 → modes_fine k (modes_in s) ≡ (leb m 7 && every (λ x. ltb x 1) (part s (9 + m) 16)) && every (λ x. ltb x 7) (part s 9 (9 + m))
    some_modes_lem k r = rw is (some_asked k r)

-- ---- by a test that a call has answered

module _ {r t : Bool} (n x y : Bool) (e : n ≡ t) where
  pub told_so : n ≡ true → r ≡ x → r ≡ cond t x y
  told_so h q = rw (← e, h) q

  pub told_not : n ≡ false → r ≡ y → r ≡ cond t x y
  told_not h q = rw (← e, h) q

-- ---- a number, or none

module _ {r : Bool} (a : Association) where
  pub none_by : a.kind ≡ 0 → r ≡ same_association no_association a → r ≡ number_if a
  none_by q e = rw (eq-eqb a.kind 0 q) e

  pub some_by : (a.kind ≡ 0 → ⊥) → r ≡ (party_number true).valid a → r ≡ number_if a
  some_by q e = rw (ne_eqb a.kind 0 q) e

-- ---- the extension, where it lies in its octets

most_two : (form : ℕ) → most_extension form ≤ 2
unfolding most_extension
most_two form =
    by_cases (leb 59 form || leb form 2) (λ q. rw q (omega arith)) (λ q. rw q (by_cases (eqb form 8) (λ p. rw p (omega arith)) (λ p. rw p (omega arith))))

module _ (s : List ℕ) (e : length s ≡ 244) where
  abbrev count : ℕ
  count = get_or s 1 0

  abbrev kind : ℕ
  kind = get_or s 0 0

  -- the octets past the count
  abbrev past : List ℕ
  past = part s (2 + count) 244

  abbrev zero_past : Bool
  zero_past = same_list eqb (replicate (length past) 0) past

  abbrev good : Run (List ℕ) → Bool
  good I = I.valid (part s 2 (2 + count))

  long : length (drop 2 s) ≡ 242
  long = omega (arith, length-drop 2 s)

  rest_is : drop count (drop 2 s) ≡ past
  unfolding part
  rest_is = drop-drop count 2 s ∙ sym (take_all (244 - (2 + count)) (drop (2 + count) s) (omega (arith, length-drop (2 + count) s)))

  first_is : take count (drop 2 s) ≡ part s 2 (2 + count)
  unfolding part
  first_is = let k : count ≡ 2 + count - 2 = omega arith in ap (λ (i : ℕ). take i (drop 2 s)) k

  kept_is : (tag k : ℕ) (I : Run (List ℕ)) → kind ≡ k → (extension_at tag k I).valid (extension_in s) ≡ leb count 242 && (zero_past && good I)
  unfolding extension_at canonical over cons
  kept_is tag k I q =
      rw (eq-eqb k kind (sym q), counted_is count 242 (drop 2 s) long, rest_is, first_is) (and_assoc (leb count 242) zero_past (good I))

  none_is : kind ≡ 0 → same_extension no_extension (extension_in s) ≡ leb count 242 && (zero_past && eqb count 0)
  none_is q =
      by_cases (eqb count 0)
      (λ c.
      let z : count ≡ 0 = eqb-true count 0 c in
      let p : past ≡ drop 2 s = sym rest_is ∙ ap (λ (i : ℕ). drop i (drop 2 s)) z in
      let t : zero_past ≡ same_list eqb (replicate 242 0) (drop 2 s) = ap₂ (λ (i : ℕ) (xs : List ℕ). same_list eqb (replicate i 0) xs) (ap length p ∙ long) p in
      rw (c, t, eq-eqb 0 kind (sym q), eq-eqb 0 count (sym z), le-leb count 242 (omega arith)) (sym (and-true _)))
      (λ c.
      let z : count ≡ 0 → ⊥ = eqb-false count 0 c in
      rw (c, eq-eqb 0 kind (sym q), ne_eqb 0 count (λ w. z (sym w))) (simp ands))

  pub extension_is : (form : ℕ) → extension_fine form (extension_in s)
      ≡ leb kind (most_extension form) && (leb count 242 && (zero_past && cond (eqb kind 0) (eqb count 0) (good (inside_of kind))))
  unfolding extension_fine any_extension sort unextended canonical over nothing
  extension_is form =
      by_cases (leb kind (most_extension form))
      (λ l.
      let h : kind ≤ 2 = omega (arith, leb-true kind (most_extension form) l, most_two form) in
      rw l
      (by_cases (eqb kind 0)
      (λ a. let z = eqb-true kind 0 a in rw (a, ne_eqb kind 1 (λ w. omega arith), ne_eqb kind 2 (λ w. omega arith)) (and-true _ ∙ none_is z))
      (λ a. by_cases (eqb kind 1)
      (λ b. let z = eqb-true kind 1 b in rw (a, b, ne_eqb kind 2 (λ w. omega arith)) (kept_is 0xa1 1 in_one z))
      (λ b. let z = eqb-false kind 0 a in let y = eqb-false kind 1 b in let w : kind ≡ 2 = omega arith in
      rw (a, b, eq-eqb kind 2 w) (kept_is 0xa2 2 in_list w)))))
      (λ l. rw l)

  -- what the code has found when it answers
  module _ (form : ℕ) {most : ℕ} (m : most ≡ most_extension form) where
    pub extension_over : most < kind → false ≡ extension_fine form (extension_in s)
    extension_over h = rw (extension_is form, lt-leb kind (most_extension form) (omega arith))

    module _ (within : kind ≤ most) where
      fits : leb kind (most_extension form) ≡ true
      fits = le-leb kind (most_extension form) (omega arith)

      pub extension_long : 242 < count → false ≡ extension_fine form (extension_in s)
      extension_long h = rw (extension_is form, fits, lt-leb count 242 h)

      module _ (short : count ≤ 242) {r : Bool} (z : r ≡ zero_past) where
        pub extension_past : r ≡ false → false ≡ extension_fine form (extension_in s)
        extension_past h = rw (extension_is form, fits, le-leb count 242 short, ← z, h)

        module _ (clear : r ≡ true) where
          pub extension_none : kind ≡ 0 → eqb count 0 ≡ extension_fine form (extension_in s)
          extension_none q = rw (extension_is form, fits, le-leb count 242 short, ← z, clear, eq-eqb kind 0 q)

          pub extension_judged : (kind ≡ 0 → ⊥) → {b : Bool} → b ≡ (inside_of kind).valid (part s 2 (2 + count)) → b ≡ extension_fine form (extension_in s)
          extension_judged q j = rw (extension_is form, fits, le-leb count 242 short, ← z, clear, ne_eqb kind 0 q) j

-- ---- the whole, in the order in which the code tests

-- the user taken out of the front
pub as_front : {r : Bool} (k p : ℕ) (s : List ℕ) (u : Association) → u ≡ association_in s
    → r ≡ detail_fine k p (get_or s 42 0) && (entity_fine k (get_or s 43 0) && (modes_fine k (modes_in s) && user_fine k u)) → r ≡ front_fits k p s
unfolding front_fits
as_front k p s u q h = rw (← q) h

body_is : (k p : ℕ) (s x : List ℕ) (c : Charge) → front_fits k p s && (charge_fits k c && extension_fine k (extension_in x)) ≡ body_fine k p (body_in s x c)
unfolding front_fits body_fine inner_fine body_in
body_is k p s x c = simp and_assoc

by_form : {r : Bool} (t : Trunk) (l : Lead) {k : ℕ} → l ≡ t.lead → k ≡ form_of l → r ≡ lead_fine l && body_fine k l.problem t.body → r ≡ trunk_component.valid t
unfolding trunk_fine
by_form t l q f h = rw (component_fine t, ← q, ← f) h

pub as_trunk : {r : Bool} (s x : List ℕ) (c : Charge) (l : Lead) {k : ℕ} → l ≡ lead_in s → k ≡ form_of l
    → r ≡ lead_fine l && (front_fits k l.problem s && (charge_fits k c && extension_fine k (extension_in x))) → r ≡ trunk_component.valid (trunk_in s x c)
unfolding trunk_in
as_trunk s x c l q f h = by_form (trunk_in s x c) l q f (h ∙ ap (λ (t : Bool). lead_fine l && t) (body_is _ l.problem s x c))
