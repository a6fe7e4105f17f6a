-- Runs of stores: what several writes one after the other leave is one write of all their octets.
use Rattle.prelude.proofs.Prelude.{ℕ, suc, ◌+◌, ◌-◌, ◌*◌, ◌/◌, ◌%◌, ◌^◌, ◌≤◌, ◌<◌, ◌≡◌, refl, sym, ap, ap₂, ◌∙◌, subst, List, [], ◌∷◌, ◌++◌, Bool, true, false, cond, arith, add-zero, add-suc}
use Rattle.prelude.proofs.Prelude.{suc-add, add-one, towards_suc, length, get_or, set, drop, take, length-append, length-set, sets, take-suc, drop-cons, ltb, lt-ltb, le-ltb}
use Rattle.coding.specs.{Reader.part, Contents.every, Codec.length_octets, Codec.Leaf, Codec.Run, Codec.prim, Codec.cons, Leaves.width, Leaves.digits, Leaves.number, inner.Written.Wrote}
use Rattle.coding.specs.{inner.Written.Room, inner.Written.lead, inner.Written.full_number}
use Rattle.coding.proofs.{Basic.picked, Basic.unpicked, Digits.power_bits, Number.length_digits}
use Rattle.prelude.proofs.Ways.{by_cases}
pub use Rattle.coding.proofs.Number.{width_range}

pub sets_append : (xs ys l : List ℕ) (i : ℕ) → sets l i (xs ++ ys) ≡ sets (sets l i xs) (i + length xs) ys
sets_append [] ys l i = ap (λ (j : ℕ). sets l j ys) (sym (add-zero i))
sets_append (x ∷ xs) ys l i = sets_append xs ys (set l i x) (suc i) ∙ ap (λ (j : ℕ). sets (sets (set l i x) (suc i) xs) j ys) (suc-add i (length xs) ∙ sym (add-suc i (length xs)))

-- one write after another
pub wrote_both : {l m n : List ℕ} {a b c : ℕ} {xs ys : List ℕ} → Wrote l m a xs b → Wrote m n b ys c → Wrote l n a (xs ++ ys) c
wrote_both {l} {m} {n} {a} {b} {c} {xs} {ys} p q = record {
  kept = q.kept ∙ p.kept;
  place = omega (arith, p.place, q.place, length-append xs ys);
  stored =
      q.stored ∙ ap₂ (λ (k : List ℕ) (j : ℕ). sets k j ys) p.stored p.place ∙ sym (sets_append xs ys l a);
}

-- one octet more
pub wrote_one : (l : List ℕ) (a x : ℕ) → Wrote l (set l a x) a (x ∷ []) (a + 1)
wrote_one l a x = record { kept = length-set l a x; place = refl; stored = refl }

-- one octet, and then the rest
pub wrote_cons : {l m : List ℕ} {a x r : ℕ} {xs : List ℕ} → Wrote (set l a x) m (a + 1) xs r → Wrote l m a (x ∷ xs) r
wrote_cons {l} {m} {a} {x} {r} {xs} p = record {
  kept = p.kept ∙ length-set l a x;
  place = omega (arith, p.place);
  stored = p.stored ∙ ap (λ (j : ℕ). sets (set l a x) j xs) (add-one a);
}

-- the octets under another name
pub wrote_as : {l m : List ℕ} {a b : ℕ} {xs ys : List ℕ} → xs ≡ ys → Wrote l m a xs b → Wrote l m a ys b
wrote_as {l} {m} {a} {b} e p = subst (λ zs. Wrote l m a zs b) e p

pub wrote_next : {l m : List ℕ} {a b c : ℕ} {xs : List ℕ} → b ≡ c → Wrote l m a xs b → Wrote l m a xs c
wrote_next {l} {m} {a} {b} {c} {xs} e p = subst (λ k. Wrote l m a xs k) e p

-- nothing yet
pub wrote_none : (l : List ℕ) (a : ℕ) → Wrote l l a [] (a + 0)
wrote_none l a = record { kept = refl; place = refl; stored = refl }

-- one more of a list that is copied
pub wrote_octet : (l m : List ℕ) (a : ℕ) (s : List ℕ) (i : ℕ) → i < length s → Wrote l m a (take i s) (a + i)
    → Wrote l (set m (a + i) (get_or s i 0)) a (take (i + 1) s) (a + (i + 1))
wrote_octet l m a s i h p =
    wrote_next (omega arith)
    (wrote_as (sym (take-suc s i 0 h) ∙ ap (λ (k : ℕ). take k s) (sym (add-one i))) (wrote_both p (wrote_one m (a + i) (get_or s i 0))))

-- straight-line stores
pub wrote_2 : (l : List ℕ) (a x y : ℕ) → Wrote l (set (set l a x) (a + 1) y) a (x ∷ y ∷ []) (a + 2)
wrote_2 l a x y = record { kept = simp length-set; place = refl; stored = simp towards_suc }

pub wrote_3 : (l : List ℕ) (a x y z : ℕ) → Wrote l (set (set (set l a x) (a + 1) y) (a + 2) z) a (x ∷ y ∷ z ∷ []) (a + 3)
wrote_3 l a x y z = record { kept = simp length-set; place = refl; stored = simp towards_suc }

pub wrote_4 : (l : List ℕ) (a x y z w : ℕ) → Wrote l (set (set (set (set l a x) (a + 1) y) (a + 2) z) (a + 3) w) a (x ∷ y ∷ z ∷ w ∷ []) (a + 4)
wrote_4 l a x y z w = record { kept = simp length-set; place = refl; stored = simp towards_suc }

-- ---- room: where all octets fit, the first part fits, and the rest fits after it

pub room_head : {l xs : List ℕ} (ys : List ℕ) {a : ℕ} → Room l a (xs ++ ys) → Room l a xs
room_head {xs} ys h = record { fits = omega (arith, length-append xs ys) }

pub room_tail : {l m xs ys : List ℕ} {a b : ℕ} → Wrote l m a xs b → Room l a (xs ++ ys) → Room m b ys
room_tail {xs} {ys} w h = record { fits = omega (arith, length-append xs ys) }

-- three parts: the second, and the third, which may be there only where a test holds
pub room_middle : {l m xs ys : List ℕ} (zs : List ℕ) {a b : ℕ} → Wrote l m a xs b → Room l a (xs ++ (ys ++ zs)) → Room m b ys
room_middle zs w h = room_head zs (room_tail w h)

pub room_third : {l m n xs ys zs : List ℕ} {a b d : ℕ} → Wrote m n b ys d → Wrote l m a xs b → Room l a (xs ++ (ys ++ zs)) → Room n d zs
room_third v w h = room_tail v (room_tail w h)

pub room_as : {l xs ys : List ℕ} {a : ℕ} → Room l a xs → xs ≡ ys → Room l a ys
room_as {l} {a} h e = subst (λ zs. Room l a zs) e h

pub room_when : {l m n xs ys zs : List ℕ} {a b d : ℕ} (t : Bool) (us : List ℕ) → Wrote m n b ys d → Wrote l m a xs b → Room l a (xs ++ (ys ++ cond t zs us)) → t ≡ true
    → Room n d zs
room_when {zs} t us v w h e = room_as (room_third v w h) (picked zs us e)

pub ruleset room = (room_head, room_tail, room_middle, room_as, wrote_both)

-- octets in two parts, by an equation
pub record Split (all xs ys : List ℕ) : Type 0 where
  pub parts : all ≡ xs ++ ys

pub split : (xs ys : List ℕ) → Split (xs ++ ys) xs ys
split xs ys = record { parts = refl }

pub split_length : {all xs ys : List ℕ} → Split all xs ys → length all ≡ length xs + length ys
split_length {all} {xs} {ys} e = ap length e.parts ∙ length-append xs ys

pub room_first : {l all xs ys : List ℕ} {a : ℕ} → Split all xs ys → Room l a all → Room l a xs
room_first e h = room_head _ (room_as h e.parts)

pub room_rest : {l m all xs ys : List ℕ} {a b : ℕ} → Split all xs ys → Room l a all → Wrote l m a xs b → Room m b ys
room_rest e h w = room_tail w (room_as h e.parts)

pub wrote_parts : {l m n all xs ys : List ℕ} {a b c : ℕ} → Split all xs ys → Wrote l m a xs b → Wrote m n b ys c → Wrote l n a all c
wrote_parts e p q = wrote_as (sym e.parts) (wrote_both p q)

-- ---- tag and length octets

-- a lead and what follows it
pub string_split : (tag n : ℕ) (xs : List ℕ) → Split (tag ∷ length_octets n ++ xs) (lead tag n) xs
unfolding lead
string_split tag n xs = record { parts = refl }

pub lead_short : (tag n : ℕ) → n < 128 → lead tag n ≡ tag ∷ n ∷ []
unfolding lead length_octets
lead_short tag n h = ap (λ (xs : List ℕ). tag ∷ xs) (picked _ _ (lt-ltb n 128 h))

pub lead_long : (tag n : ℕ) → 128 ≤ n → n < 256 → lead tag n ≡ tag ∷ 129 ∷ n ∷ []
unfolding lead length_octets
lead_long tag n l h = ap (λ (xs : List ℕ). tag ∷ xs) (unpicked _ _ (le-ltb n 128 l) ∙ picked _ _ (lt-ltb n 256 h))

pub lead_length_short : (tag n : ℕ) → n < 128 → length (lead tag n) ≡ 2
lead_length_short tag n h = ap length (lead_short tag n h)

pub lead_length_long : (tag n : ℕ) → 128 ≤ n → n < 256 → length (lead tag n) ≡ 3
lead_length_long tag n l h = ap length (lead_long tag n l h)

pub lead_length : (tag n : ℕ) → 2 ≤ length (lead tag n)
unfolding lead length_octets
lead_length tag n = by_cases (ltb n 128) (λ q. rw q (omega arith)) (λ q. by_cases (ltb n 256) (λ r. rw (q, r) (omega arith)) (λ r. rw (q, r) (omega arith)))

-- ---- a number's octets

-- no octets of a number, and one more
pub wrote_no_digit : (l : List ℕ) (a w n : ℕ) → w ≡ 0 → Wrote l l a (digits w n) a
unfolding digits
wrote_no_digit l a w n e = rw e (wrote_next (omega arith) (wrote_none l a))

pub wrote_digit : {l m : List ℕ} {a r : ℕ} (k w n : ℕ) → w ≡ suc k → Wrote (set l a (n / 2 ^ (8 * k) % 256)) m (a + 1) (digits k n) r → Wrote l m a (digits w n) r
unfolding digits
wrote_digit k w n e p = rw (e, power_bits k) (wrote_cons p)

-- lead and octets of a number whose width is w
pub number_split : (tag n : ℕ) {w : ℕ} → w ≡ width n → Split (full_number tag n) (lead tag w) (digits w n)
unfolding full_number
number_split tag n e = record { parts = ap (λ (j : ℕ). lead tag j ++ digits j n) (sym e) }

pub number_length : (tag n : ℕ) → length (full_number tag n) ≡ 2 + width n
unfolding full_number
number_length tag n =
    omega (
      arith,
      length-append (lead tag (width n)) (digits (width n) n),
      length_digits (width n) n,
      lead_length_short tag (width n) (omega (arith, width_range n)),
    )

-- ---- elements

-- an element is its lead and its contents
pub prim_write : {A : Type 0} (tag : ℕ) (l : Leaf A) (x : A) → (prim tag l).write x ≡ lead tag (length (l.write x)) ++ l.write x
unfolding prim lead
prim_write tag l x = refl

pub cons_write : {A : Type 0} (tag : ℕ) (f : Run A) (x : A) → (cons tag f).write x ≡ lead tag (length (f.write x)) ++ f.write x
unfolding cons lead
cons_write tag f x = refl

pub number_write : (tag low high n : ℕ) → (prim tag (number low high)).write n ≡ full_number tag n
unfolding number full_number
number_write tag low high n = prim_write tag (number low high) n ∙ ap (λ (k : ℕ). lead tag k ++ digits (width n) n) (length_digits (width n) n)

-- ---- every octet of a part

module _ (ok : ℕ → Bool) (s : List ℕ) (i to : ℕ) where
  part_cons : i < to → to ≤ length s → part s i to ≡ get_or s i 0 ∷ part s (i + 1) to
  unfolding part
  part_cons h l =
      let e : to - i ≡ suc (to - (i + 1)) = omega arith in
      ap₂ (λ (k : ℕ) (ys : List ℕ). take k ys) e (drop-cons s i 0 (omega arith))
      ∙ ap (λ (j : ℕ). get_or s i 0 ∷ take (to - (i + 1)) (drop j s)) (sym (add-one i))

  pub every_step : i < to → to ≤ length s → ok (get_or s i 0) ≡ true → every ok (part s i to) ≡ every ok (part s (i + 1) to)
  unfolding every
  every_step h l o = ap (every ok) (part_cons h l) ∙ picked _ _ o

  pub every_stop : i < to → to ≤ length s → ok (get_or s i 0) ≡ false → every ok (part s i to) ≡ false
  unfolding every
  every_stop h l o = ap (every ok) (part_cons h l) ∙ unpicked _ _ o

  pub every_end : i ≡ to → every ok (part s i to) ≡ true
  unfolding every part
  every_end e = let z : to - i ≡ 0 = omega (arith, e) in ap (λ (k : ℕ). every ok (take k (drop i s))) z
