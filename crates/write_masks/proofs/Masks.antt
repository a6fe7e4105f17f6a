-- A figure may be written exactly where its association may, what its kind's mask leaves out is zero, and what the kind uses is in range.
use Rattle.prelude.proofs.Prelude.{ℕ, zero, suc, ◌+◌, ◌*◌, ◌<◌, ◌≡◌, refl, sym, ap, ap₂, ◌∙◌, List, [], ◌∷◌, ◌++◌, Bool, true, false, not, ◌&&◌, ◌||◌, cond, arith, length}
use Rattle.prelude.proofs.{Prelude.{get_or, replicate, leb, eqb, eqb-true, eq-eqb}, Ways.by_cases}
use Rattle.coding.{specs.Codec.same_list, specs.Reader.part, proofs.Tests.ands, proofs.Tests.and_assoc, proofs.Tests.and-true, proofs.Tests.and-false, proofs.Basic.and_left, proofs.Basic.and_right, proofs.Basic.picked, proofs.Basic.unpicked}
use Rattle.types.specs.{declared.Figure.Figure, Charges.no_money, Charges.no_association, Charges.same_association, Charges.money, Charges.association}
use Rattle.types.specs.{Stored.figure_in, Stored.money_in, Stored.association_in, Arguments.same_money}
use Rattle.types.proofs.Stored.{spread, by_octets}
use Rattle.write_tests.{specs.inner.Fine.{figure_fine, marks_fine, money_fine, association_fine, priced_marks, bare_kind}, proofs.Truth.{same_truth, zero_first}, proofs.Tests.association_0}
use Rattle.write_masks.specs.inner.Masks.{masked, with_money, without_money, clear_but, mask_of, billed_fine, priced_fine, used_fine, associated, masked_fine}
use Rattle.prelude.proofs.Prelude.{◌≤◌, take}
use Rattle.std.specs.List.{list_all}
use Rattle.std.proofs.lemmas.List.Folds.{list_all_more}
use Rattle.octets.proofs.Slices.{same_whole}

-- ---- zeros, in runs of octets

abbrev zeros : List ℕ → Bool
zeros xs = same_list eqb (replicate (length xs) 0) xs

zeros_then : (xs ys zs : List ℕ) → same_list eqb (replicate (length xs) 0 ++ zs) (xs ++ ys) ≡ zeros xs && same_list eqb zs ys
zeros_then [] ys zs = refl
zeros_then (x ∷ xs) ys zs = ap (λ (b : Bool). eqb 0 x && b) (zeros_then xs ys zs) ∙ sym (and_assoc (eqb 0 x) (zeros xs) (same_list eqb zs ys))

-- a number of two octets, and one of four
two_zero : (x y : ℕ) → eqb 0 (x + 256 * y) ≡ eqb 0 x && eqb 0 y
two_zero x y =
    same_truth _ _ (λ h. let e = eqb-true 0 (x + 256 * y) h in rw (eq-eqb 0 x (omega (arith, e)), eq-eqb 0 y (omega (arith, e))))
    (λ h. let a = eqb-true 0 x (and_left (eqb 0 x) _ h) in let b = eqb-true 0 y (and_right (eqb 0 x) _ h) in eq-eqb 0 (x + 256 * y) (omega (arith, a, b)))

four_zero : (x y z w : ℕ) → eqb 0 (x + 256 * y + 65536 * (z + 256 * w)) ≡ eqb 0 x && (eqb 0 y && (eqb 0 z && eqb 0 w))
four_zero x y z w =
    same_truth _ _
    (λ h. let e = eqb-true 0 (x + 256 * y + 65536 * (z + 256 * w)) h in
    rw (eq-eqb 0 x (omega (arith, e)), eq-eqb 0 y (omega (arith, e)), eq-eqb 0 z (omega (arith, e)), eq-eqb 0 w (omega (arith, e))))
    (λ h. let a = eqb-true 0 x (and_left (eqb 0 x) _ h) in
    let r = and_right (eqb 0 x) _ h in
    let b = eqb-true 0 y (and_left (eqb 0 y) _ r) in
    let q = and_right (eqb 0 y) _ r in
    let c = eqb-true 0 z (and_left (eqb 0 z) _ q) in
    let d = eqb-true 0 w (and_right (eqb 0 z) _ q) in
    eq-eqb 0 (x + 256 * y + 65536 * (z + 256 * w)) (omega (arith, a, b, c, d)))

-- ---- what a mask leaves of octets

pub masked_long : (us xs : List ℕ) (n : ℕ) → length us ≡ n → length xs ≡ n → length (masked us xs) ≡ n
masked_long [] [] n e h = h
masked_long [] (x ∷ xs) n e h = absurd (omega (arith, e, h))
masked_long (u ∷ us) [] n e h = h
masked_long (u ∷ us) (x ∷ xs) n e h = ap suc (masked_long us xs (length xs) (omega (arith, e, h)) refl) ∙ h

pub masked_at : (us xs : List ℕ) (i : ℕ) → i < length us → i < length xs → get_or (masked us xs) i 0 ≡ cond (eqb (get_or us i 0) 0x2e) (get_or xs i 0) 0
masked_at [] xs i h l = absurd (omega arith)
masked_at (u ∷ us) [] i h l = absurd (omega arith)
masked_at (u ∷ us) (x ∷ xs) zero h l = refl
masked_at (u ∷ us) (x ∷ xs) (suc i) h l = masked_at us xs i (omega arith) (omega arith)

-- a loop that tests what is left, one octet after the other
pub clear_more : (us xs : List ℕ) (i y : ℕ) (b : Bool) → length us ≡ 48 → length xs ≡ 48 → i < 48 → b ≡ list_all (eqb 0) (take i (masked us xs))
    → y ≡ cond (eqb (get_or us i 0) 0x2e) (get_or xs i 0) 0 → b && eqb y 0 ≡ list_all (eqb 0) (take (i + 1) (masked us xs))
clear_more us xs i y b h l k e w =
    sym (list_all_more (eqb 0) (masked us xs) i 0 (omega (arith, masked_long us xs 48 h l))
    ∙ rw (masked_at us xs i (omega arith) (omega arith), ← w, ← e, zero_first y) refl)

pub clear_whole : (us xs : List ℕ) (i : ℕ) (b : Bool) → length us ≡ 48 → length xs ≡ 48 → 48 ≤ i → b ≡ list_all (eqb 0) (take i (masked us xs)) → b ≡ clear_but us xs
unfolding clear_but
clear_whole us xs i b h l e w =
    let n = masked_long us xs 48 h l in
    same_whole eqb 0 (masked us xs) i b (omega (arith, n)) w ∙ ap (λ (k : ℕ). same_list eqb (replicate k 0) (masked us xs)) n

-- ---- the parts of a figure that lie in 48 octets

module _ (f : ℕ → ℕ) where
  abbrev pub s : List ℕ
  s = spread 48 f

  abbrev money_octets : List ℕ
  money_octets = spread 16 f

  abbrev association_octets : List ℕ
  association_octets = spread 26 (λ i. f (16 + i))

  abbrev pub none_money : Bool
  none_money = same_money no_money (money_in s)

  abbrev pub none_associated : Bool
  none_associated = same_association no_association (association_in s)

  money_zero : zeros money_octets ≡ none_money
  unfolding part
  money_zero =
      ap (λ (b : Bool). eqb 0 (f 0) && b) (zeros_then (spread 10 (λ i. f (1 + i))) (spread 5 (λ i. f (11 + i))) (replicate 5 0))
      ∙ rw (four_zero (f 12) (f 13) (f 14) (f 15)) (go (eqb 0 (f 0)) (zeros (spread 10 (λ i. f (1 + i)))) (eqb 0 (f 11)) (eqb 0 (f 12)) (eqb 0 (f 13)) (eqb 0 (f 14)) (eqb 0 (f 15)))
    where
      go : (c o m x y z w : Bool) → c && (o && (m && (x && (y && (z && (w && true)))))) ≡ (c && o) && (m && (x && (y && (z && w))))
      go c o m x y z w = simp ands

  association_zero : zeros association_octets ≡ none_associated
  unfolding part
  association_zero =
      rw (two_zero (f 16) (f 17), two_zero (f 18) (f 19))
      (go (eqb 0 (f 16)) (eqb 0 (f 17)) (eqb 0 (f 18)) (eqb 0 (f 19)) (eqb 0 (f 20)) (eqb 0 (f 21)) (zeros (spread 20 (λ i. f (22 + i)))))
    where
      go : (a b c d k p z : Bool) → a && (b && (c && (d && (k && (p && z))))) ≡ ((a && b) && (c && d)) && ((k && p) && z)
      go a b c d k p z = simp ands

  -- what a mask says of the association's octets and of the small fields
  abbrev pub unassociated : Bool → Bool
  unassociated a = cond a true none_associated

  abbrev small_octets : List ℕ → List ℕ
  small_octets small = masked small (spread 6 (λ i. f (42 + i)))

  abbrev pub small_clear : List ℕ → Bool
  small_clear small = same_list eqb (replicate 6 0) (small_octets small)

  pub with_money_lem : (a : Bool) (small : List ℕ) → clear_but (with_money a small) s ≡ unassociated a && small_clear small
  unfolding clear_but
  with_money_lem true small = refl
  with_money_lem false small = zeros_then association_octets (small_octets small) (replicate 6 0) ∙ ap (λ (b : Bool). b && small_clear small) association_zero

  pub without_money_lem : (a : Bool) (small : List ℕ) → clear_but (without_money a small) s ≡ none_money && (unassociated a && small_clear small)
  unfolding clear_but
  without_money_lem true small =
      zeros_then money_octets (replicate 26 0 ++ small_octets small) (replicate 32 0) ∙ ap (λ (b : Bool). b && small_clear small) money_zero
  without_money_lem false small =
      zeros_then money_octets (association_octets ++ small_octets small) (replicate 32 0)
      ∙ ap₂ (λ (b c : Bool). b && c) money_zero
      (zeros_then association_octets (small_octets small) (replicate 6 0) ∙ ap (λ (b : Bool). b && small_clear small) association_zero)

  -- ---- a figure by its kind

  abbrev g : Figure
  g = figure_in s

  module _ (o : ℕ) where
    abbrev a : Bool
    a = associated o g

    -- the association's own test where there is one, and zeros where there is none
    abbrev fine : Bool
    fine = cond a ((association false).valid (association_in s)) true

    by_association : association_fine o g ≡ fine && unassociated a
    unfolding association_fine figure_in
    by_association =
        go (leb 35 o) (not (eqb (f 42) 0)) (eqb (f 20) 0) ((association false).valid (association_in s)) none_associated (λ h. association_0 false (association_in s) (eqb-true (f 20) 0 h))
      where
        go : (l k p v n : Bool) → (p ≡ true → v ≡ n) → cond (l && k) v n ≡ cond (l && (k && not p)) v true && cond (l && (k && not p)) true n
        go true true true v n e = e refl
        go true true false v n e = sym (and-true v)
        go true false p v n e = refl
        go false k p v n e = refl

    -- the parts, each by what it is
    as_parts : {m p : Bool} → marks_fine o g ≡ m → money_fine g ≡ p → figure_fine o g ≡ m && (p && (fine && unassociated a))
    unfolding figure_fine
    as_parts e q = rw (e, q, by_association)

    marks_priced : (during ending : ℕ) → priced_marks during ending o g ≡ eqb 0 (f 46) && priced_fine during ending o s
    unfolding figure_in
    marks_priced during ending =
        by_cases (eqb o during) (λ e. rw e (go (leb (f 43) 1) (eqb 0 (f 46)) (billed_fine 2 (f 44) (f 45))))
        (λ e. by_cases (eqb o ending) (λ q. rw (e, q) (go (eqb 0 (f 43)) (eqb 0 (f 46)) (billed_fine 7 (f 44) (f 45)))) (λ q. rw (e, q) (sym (and-false (eqb 0 (f 46))))))
      where
        go : (t r b : Bool) → (t && r) && b ≡ r && (t && b)
        go t r b = simp ands

    abbrev Masked : Type 0
    Masked = figure_fine o g ≡ fine && masked_fine a o s

    -- by the kind's mask, and by the test of what the kind uses
    by_mask : {mask : List ℕ} {used x : Bool} → mask_of a (f 42) ≡ mask → used_fine o (f 42) s ≡ used → figure_fine o g ≡ x → x ≡ fine && (clear_but mask s && used) → Masked
    by_mask m u e q = e ∙ q ∙ sym (ap₂ (λ (mask : List ℕ) (used : Bool). fine && (clear_but mask s && used)) m u)

    of_money : eqb (f 42) 2 ≡ true → Masked
    unfolding marks_fine money_fine mask_of used_fine figure_in
    of_money q =
        by_mask (picked _ _ q) (picked _ _ q) (as_parts (picked _ _ q ∙ marks_priced 33 35) (picked _ _ q))
        (rw (with_money_lem a) (go (eqb 0 (f 46)) (priced_fine 33 35 o s) ((money false).valid (money_in s)) fine (unassociated a)))
      where
        go : (r p m v n : Bool) → (r && p) && (m && (v && n)) ≡ v && ((n && (r && true)) && (p && m))
        go r p m v n = simp ands

    module _ (n2 : eqb (f 42) 2 ≡ false) where
      of_units : eqb (f 42) 3 ≡ true → Masked
      unfolding marks_fine money_fine mask_of used_fine figure_in
      of_units q =
          by_mask (unpicked _ _ n2 ∙ picked _ _ q) (unpicked _ _ n2 ∙ picked _ _ q) (as_parts (unpicked _ _ n2 ∙ picked _ _ q ∙ marks_priced 34 36) (unpicked _ _ n2))
          (rw (without_money_lem a) (go (eqb 0 (f 46)) (priced_fine 34 36 o s) none_money fine (unassociated a)))
        where
          go : (r p m v n : Bool) → (r && p) && (m && (v && n)) ≡ v && ((m && (n && (r && true))) && p)
          go r p m v n = simp ands

      module _ (n3 : eqb (f 42) 3 ≡ false) where
        past : {A : Type 0} (u v : A) {x : A} → cond (eqb (f 42) 2) u (cond (eqb (f 42) 3) v x) ≡ x
        past u v = unpicked _ _ n2 ∙ unpicked _ _ n3

        of_arrangement : eqb (f 42) 5 ≡ true → Masked
        unfolding marks_fine money_fine mask_of used_fine figure_in
        of_arrangement q =
            by_mask (past _ _ ∙ picked _ _ q) (past _ _ ∙ picked _ _ q) (as_parts (past _ _ ∙ picked _ _ q) (unpicked _ _ n2))
            (rw (without_money_lem a)
            (go (eqb o 30 || eqb o 32) (eqb 0 (f 43)) (leb 1 (f 46) && leb (f 46) 10) (eqb 0 (f 44)) (eqb 0 (f 45)) none_money fine (unassociated a)))
          where
            go : (w t l d b m v n : Bool) → (w && ((t && l) && (d && b))) && (m && (v && n)) ≡ v && ((m && (n && (t && (d && (b && true))))) && (w && l))
            go w t l d b m v n = simp ands

        of_bare : eqb (f 42) 5 ≡ false → Masked
        unfolding marks_fine money_fine mask_of used_fine figure_in
        of_bare n5 =
            by_mask (past _ _ ∙ unpicked _ _ n5) (past _ _ ∙ unpicked _ _ n5) (as_parts (past _ _ ∙ unpicked _ _ n5) (unpicked _ _ n2))
            (rw (without_money_lem a) (go (bare_kind o (f 42)) (eqb 0 (f 43)) (eqb 0 (f 46)) (eqb 0 (f 44)) (eqb 0 (f 45)) none_money fine (unassociated a)))
          where
            go : (k t r d b m v n : Bool) → (k && ((t && r) && (d && b))) && (m && (v && n)) ≡ v && ((m && (n && (t && (d && (b && (r && true)))))) && k)
            go k t r d b m v n = simp ands

    by_kind : Masked
    by_kind =
        by_cases (eqb (f 42) 2) of_money (λ n2. by_cases (eqb (f 42) 3) (of_units n2) (λ n3. by_cases (eqb (f 42) 5) (of_arrangement n2 n3) (of_bare n2 n3)))

-- by the tests that the code made
pub by_masks : {a x : Bool} (o : ℕ) (s : List ℕ) → length s ≡ 48 → a ≡ associated o (figure_in s)
    → x ≡ cond a ((association false).valid (association_in s)) true && masked_fine a o s → x ≡ figure_fine o (figure_in s)
by_masks o s e h q =
    q ∙ ap (λ (a : Bool). cond a ((association false).valid (association_in s)) true && masked_fine a o s) h
    ∙ sym (by_octets 48 (λ (s : List ℕ). figure_fine o (figure_in s) ≡ cond (associated o (figure_in s)) ((association false).valid (association_in s)) true && masked_fine (associated o (figure_in s)) o s) (λ f. by_kind f o) s e)
