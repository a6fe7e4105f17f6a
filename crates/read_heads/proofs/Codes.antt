-- How the code's numbers go with the faults; values of a list.
use Rattle.prelude.proofs.Prelude.{ℕ, zero, suc, ◌+◌, ◌-◌, ◌≤◌, ◌<◌, min, arith, ◌≡◌, refl, ap, sym, ◌∙◌, Bool, true, false, not, cond, true≢false, List, [], ◌∷◌, length, ltb, leb, eqb, lt-ltb}
use Rattle.prelude.proofs.{Prelude.{le-ltb, lt-leb, le-leb, ltb-true, eqb-true, eqb-false, ne_eqb, not-true, not-false}, Ways.by_cases}
use Rattle.coding.specs.Reader.{Fault, code, part, ruled, Fault.{missing, unexpected, cut, form, shortest, contents, limit, named}}
use Rattle.coding.specs.{Contents.{negative, number_from}, Codec.{one_of, all}, Leaves.listing, inner.Shown.shown}
use Rattle.coding.proofs.{Basic.{or_case, and_left, and_right}, Parts.part_length}
use Rattle.types.specs.Frames.{outside, in_argument, number_of, operations}
use Rattle.read_elements.specs.declared.NumberRead.{NumberRead}
use Rattle.read_heads.specs.inner.Heads.{outside_code, argument_code, fault_by, known_in, looked_up}
use Rattle.coding.specs.Contents as Contents

-- the three at once
pub told : (w : Fault) → (outside_code (code w) ≡ code (outside w)) × (argument_code (code w) ≡ code (in_argument w)) × (fault_by (code w) ≡ w)
told missing = (refl, refl, refl)
told unexpected = (refl, refl, refl)
told cut = (refl, refl, refl)
told form = (refl, refl, refl)
told shortest = (refl, refl, refl)
told contents = (refl, refl, refl)
told limit = (refl, refl, refl)
told (named n) =
    let l : 100 ≤ 100 + n = omega arith in
    let e : 100 + n - 100 ≡ n = omega arith in
    (simp (le-leb 100 (100 + n) l), simp (le-ltb (100 + n) 100 l), simp (le-leb 100 (100 + n) l) (ap named e))

pub outside_code_lem : (w : Fault) → outside_code (code w) ≡ code (outside w)
outside_code_lem w = (told w).0

-- a fault that is told by no number of its own is the frame's
pub number_low : (k : ℕ) → k < 100 → (k ≡ 2 → ⊥) → 6 ≡ number_of (fault_by k)
number_low k l n =
    rw (lt-leb 100 k l, ne_eqb k 2 n) (by_cases (eqb k 40) (λ q. rw q) (λ q. rw q (by_cases (eqb k 41) (λ q. rw q) (λ q. rw q (
    by_cases (eqb k 42) (λ q. rw q) (λ q. rw q (by_cases (eqb k 43) (λ q. rw q) (λ q. rw q (by_cases (eqb k 45) (λ q. rw q) (λ q. rw q))))))))))

-- ---- values of a list

-- what holds of every value in a list holds of one that is in it
in_all : (P : ℕ → Bool) (ks : List ℕ) (n : ℕ) → all P ks ≡ true → one_of ks n ≡ true → P n ≡ true
unfolding one_of
in_all P [] n a h = absurd (true≢false (sym h))
in_all P (k ∷ ks) n a h = or_case (eqb n k) _ h (λ q. ap P (eqb-true n k q) ∙ and_left (P k) _ a) (in_all P ks n (and_right (P k) _ a))

pub none_of : (P : ℕ → Bool) (ks : List ℕ) (n : ℕ) → all P ks ≡ true → P n ≡ false → one_of ks n ≡ false
none_of P ks n a f = by_cases (one_of ks n) (λ q. absurd (true≢false (sym (in_all P ks n a q) ∙ f))) (λ q. q)

-- k numbers, one after another
unfoldable pub count : ℕ → ℕ → List ℕ
count n zero = []
count n (suc k) = n ∷ count (n + 1) k

pub counted : (low k n : ℕ) → low ≤ n → n < low + k → one_of (count low k) n ≡ true
unfolding one_of count
counted low zero n a b = absurd (omega arith)
counted low (suc k) n a b = by_cases (eqb n low) (λ q. rw q) (λ q. rw q (counted (low + 1) k n (omega (arith, eqb-false n low q)) (omega arith)))

pub has_below : (most : ℕ) (ks : List ℕ) (n : ℕ) → all (λ k. ltb k most) ks ≡ true → one_of ks n ≡ true → n < most
has_below most ks n a h = ltb-true n most (in_all (λ k. ltb k most) ks n a h)

-- 2^24 is in no list of lower numbers, so that a number held there is in it where the number is
module _ (ks : List ℕ) (low : all (λ k. ltb k 16777216) ks ≡ true) where
  pub unlisted : one_of ks 16777216 ≡ false
  unlisted = none_of (λ k. ltb k 16777216) ks 16777216 low refl

  unlisted_held : (n m : ℕ) → n ≡ min m 16777216 → one_of ks n ≡ false → one_of ks m ≡ false
  unlisted_held n m e h = by_cases (one_of ks m) (λ q. let z : m ≡ n = omega (arith, has_below 16777216 ks m low q) in rw z h) (λ q. q)

-- as those of all frames are: no known value is over 36
pub known_low : (k : ℕ) → (all (λ n. ltb n 16777216) (known_in k) ≡ true) × (all (λ n. ltb n 256) (known_in k) ≡ true)
known_low k = by_cases (eqb k 1) (λ p. rw p (refl, refl)) (λ p. by_cases (eqb k 2) (λ q. rw (p, q) (refl, refl)) (λ q. rw (p, q) (refl, refl)))

-- ---- a value's number, looked up in a list: 2^24 is in none

module _ (u : ℕ) (ks : List ℕ) (at next : ℕ) where
  pub number_known : (xs : List ℕ) {n : ℕ} → Contents.shortest xs ≡ true → length xs ≤ 4 → negative xs ≡ false → n ≡ number_from 0 xs → one_of ks n ≡ true
      → (0, 0, n, next) ≡ shown 0 (ruled (listing u ks xs) at next)
  unfolding listing ruled shown
  number_known xs s l p e h = rw (s, le-ltb _ _ l, p, ← e, h)

  -- as it is tested: whether the octets are shortest, their count, the sign
  module _ (s : List ℕ) (start stop end : ℕ) (i : stop ≤ end) (j : end ≤ length s) {b : Bool} (e : b ≡ Contents.shortest (part s start stop)) where
    counts : length (part s start stop) ≡ stop - start
    counts = part_length s start stop (omega arith)

    abbrev meant : ℕ × ℕ × ℕ × ℕ
    meant = shown 0 (ruled (listing u ks (part s start stop)) at next)

    pub number_padded : b ≡ false → (43, at, 0, 0) ≡ meant
    unfolding listing ruled shown
    number_padded t = rw (sym e ∙ t)

    module _ (t : b ≡ true) where
      pub number_long : 4 < stop - start → (44, at, 0, 0) ≡ meant
      unfolding listing ruled shown
      number_long h = rw (sym e ∙ t, counts, lt-ltb _ _ h)

      module _ (low : all (λ k. ltb k 16777216) ks ≡ true) (f : stop - start ≤ 4) {n : Bool} (g : n ≡ negative (part s start stop)) where
        abbrev found : ℕ → ℕ × ℕ × ℕ × ℕ
        found v = looked_up u ks at (record { fault = 0; place = 0; value = v; next = next })

        pub number_negative : n ≡ true → found 16777216 ≡ meant
        unfolding listing ruled shown looked_up
        number_negative h = rw (unlisted ks low, sym e ∙ t, counts, le-ltb _ _ f, sym g ∙ h)

        pub number_found : {v : ℕ} → n ≡ false → v ≡ min (number_from 0 (part s start stop)) 16777216 → found v ≡ meant
        unfolding listing ruled shown looked_up
        number_found {v} h p =
            by_cases (one_of ks v)
            (λ q. rw q (number_known _ (sym e ∙ t) (omega (arith, counts)) (sym g ∙ h) (omega (arith, has_below 16777216 ks v low q)) q))
            (λ q. rw (q, sym e ∙ t, counts, le-ltb _ _ f, sym g ∙ h, unlisted_held ks low v _ p q))

pub ruleset numbering = (number_padded, number_long, number_negative, number_found)

pub looked_halted : (u : ℕ) (ks : List ℕ) (at : ℕ) {r : NumberRead} {k p : ℕ} {t : ℕ × ℕ × ℕ × ℕ} → r ≡ record { fault = k; place = p; value = 0; next = 0 }
    → (k ≡ 0 → ⊥) → (k, p, 0, 0) ≡ t → looked_up u ks at r ≡ t
unfolding looked_up
looked_halted u ks at e f h = rw (e, ne_eqb _ _ f) h

-- ---- the operations are those from 30 to 36

pub operation_below : (n : ℕ) → n < 30 → false ≡ one_of operations n
operation_below n l = sym (none_of (leb 30) operations n refl (lt-leb 30 n l))

pub operation_above : (n : ℕ) → 36 < n → false ≡ one_of operations n
operation_above n l = sym (none_of (λ k. leb k 36) operations n refl (lt-leb n 36 l))

pub operation_known : (n : ℕ) → 30 ≤ n → n ≤ 36 → true ≡ one_of operations n
unfolding count
operation_known n l h = sym (counted 30 7 n l (omega arith))
