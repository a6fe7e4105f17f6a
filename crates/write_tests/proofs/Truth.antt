-- Tests joined by `and`: in any order, and taken apart.
use Rattle.prelude.proofs.Prelude.{ℕ, zero, suc, ◌+◌, ◌-◌, ◌≤◌, ◌≡◌, refl, sym, subst, List, Bool, true, false, ◌&&◌, ◌↔◌, arith, leb, eqb, leb-true, le-leb, eqb-true, eq-eqb}
use Rattle.prelude.proofs.Prelude.{ne_eqb}
use Rattle.coding.{specs.Codec.same_list, proofs.Padded.eqb_equal, proofs.Padded.list_equal, proofs.Holds.and_iff, proofs.Tests.ands}

-- two tests are the same if each says what the other says
pub same_truth : (a b : Bool) → (a ≡ true → b ≡ true) → (b ≡ true → a ≡ true) → a ≡ b
same_truth true b f g = sym (f refl)
same_truth false true f g = g refl
same_truth false false f g = refl

-- a test against zero, either way round
pub zero_first : (n : ℕ) → eqb 0 n ≡ eqb n 0
zero_first n = same_truth (eqb 0 n) (eqb n 0) (λ h. eq-eqb n 0 (sym (eqb-true 0 n h))) (λ h. eq-eqb 0 n (sym (eqb-true n 0 h)))

pub list_self : (xs : List ℕ) → same_list eqb xs xs ≡ true
list_self xs = (list_equal eqb eqb_equal).self xs

-- what a function answers to a test that the code goes on from, and the tests after it
pub test_no : (a b r : Bool) → r ≡ a → r ≡ false → false ≡ a && b
test_no a b r e h = rw (← e, h)

pub test_yes : (a b r x : Bool) → r ≡ a → r ≡ true → x ≡ b → x ≡ a && b
test_yes a b r x e h q = rw (← e, h) q

pub ruleset answered = (test_no, test_yes)

-- the same where the tests are joined
pub told_no : (a b r : Bool) → r ≡ a → r ≡ false → r ≡ a && b
told_no a b r e h = rw (← e, h)

pub told_yes : (a b r x : Bool) → r ≡ a → r ≡ true → x ≡ b → x ≡ a && b
told_yes a b r x e h q = rw (← e, h) q

pub ruleset told = (told_no, told_yes)

-- ---- in any order

-- a test of equality of charges, and a test of what it holds: the kind first, then the small fields, money and association, and the list
pub fields : (m a k t d b r n e v : Bool)
    → (((m && a) && ((k && (t && d)) && (b && (r && n)))) && e) && v ≡ k && ((((t && r) && (d && b)) && (m && a)) && ((n && e) && v))
fields m a k t d b r n e v = simp ands

-- a mark that says what it stands for, and what follows it
pub mark_last : (x f t g : Bool) → ((x && true) && true) && (f && (t && g)) ≡ f && (t && (x && g))
mark_last x f t g = simp ands

pub mark_next : (z x f g : Bool) → (((z && x) && true) && true) && (f && g) ≡ f && (z && (x && g))
mark_next z x f g = simp ands

-- the orders in which a type's tests are met and those in which they are made
pub arranged_order : (t d p l r : Bool) → ((t && d) && p) && (l && r) ≡ ((t && r) && d) && p && l
arranged_order t d p l r = simp ands

pub money_order : (k r a l v t b : Bool) → (k && (((r && true) && a) && (l && v))) && (t && b) ≡ k && ((((t && r) && b) && (v && a)) && l)
money_order k r a l v t b = simp ands

pub list_order : (k r p u t b : Bool) → (k && (((r && true) && p) && u)) && (t && b) ≡ k && ((((t && r) && b) && p) && u)
list_order k r p u t b = simp ands

pub last_order : (k q v l s : Bool) → (k && ((q && (v && true)) && l)) && s ≡ k && ((q && (v && s)) && l)
last_order k q v l s = simp ands

pub whole_order : (f n : Bool) → f && (n && true) ≡ n && f
whole_order f n = simp ands

pub unlisted_order : (f n e : Bool) → f && (n && e) ≡ e && (n && f)
unlisted_order f n e = simp ands

pub amount_order : (c o m n : Bool) → (c && o) && (m && n) ≡ (c && (m && n)) && o
amount_order c o m n = simp ands

pub identified_order : (c k p z : Bool) → c && ((k && p) && z) ≡ (k && (c && p)) && z
identified_order c k p z = simp ands

pub digits_order : (n z o d : Bool) → (n && z) && (o && (true && d)) ≡ ((o && n) && z) && d
digits_order n z o d = simp ands

pub currency_order : (n z o d : Bool) → (n && z) && (o && (true && d)) ≡ o && (n && (z && d))
currency_order n z o d = simp ands

pub public_order : (i l k s p d : Bool) → ((i && l) && ((k && true) && s)) && (p && d) ≡ (k && (i && p)) && ((l && s) && d)
public_order i l k s p d = simp ands

pub plain_order : (i l k p s d : Bool) → ((i && l) && ((k && p) && s)) && d ≡ (k && (i && p)) && ((l && s) && d)
plain_order i l k p s d = simp ands

pub number_order : (k i p d : Bool) → (k && (i && p)) && d ≡ i && ((k && p) && d)
number_order k i p d = simp ands

-- ---- what a true test says

pub eqb_iff : (a b : ℕ) → (eqb a b ≡ true) ↔ (a ≡ b)
eqb_iff a b = (eqb-true a b, eq-eqb a b)

pub leb_iff : (a b : ℕ) → (leb a b ≡ true) ↔ (a ≤ b)
leb_iff a b = (leb-true a b, le-leb a b)

pub list_iff : (xs ys : List ℕ) → (same_list eqb xs ys ≡ true) ↔ (xs ≡ ys)
list_iff xs ys = ((list_equal eqb eqb_equal).equal xs ys, λ e. rw (← e) (list_self xs))

pub ruleset truth = (and_iff, eqb_iff, leb_iff, list_iff)

-- ---- by the kind, by the operation

pub kinds : (P : ℕ → Type 0) → P 0 → P 1 → P 2 → P 3 → P 4 → P 5 → ((k : ℕ) → 6 ≤ k → P k) → (k : ℕ) → P k
kinds P a b c d e f g zero = a
kinds P a b c d e f g (suc zero) = b
kinds P a b c d e f g (suc (suc zero)) = c
kinds P a b c d e f g (suc (suc (suc zero))) = d
kinds P a b c d e f g (suc (suc (suc (suc zero)))) = e
kinds P a b c d e f g (suc (suc (suc (suc (suc zero))))) = f
kinds P a b c d e f g (suc (suc (suc (suc (suc (suc k)))))) = g (suc (suc (suc (suc (suc (suc k)))))) (omega arith)

-- another kind is none of these
pub other_kind : (k n : ℕ) → 6 ≤ k → leb n 5 ≡ true → eqb k n ≡ false
other_kind k n h l = ne_eqb k n (λ z. omega (arith, leb-true n 5 l))

pub other_kind' : (k n : ℕ) → 6 ≤ k → leb n 5 ≡ true → eqb n k ≡ false
other_kind' k n h l = ne_eqb n k (λ z. omega (arith, leb-true n 5 l))

pub only_two : (k : ℕ) → k ≤ 5 → (k ≡ 0 → ⊥) → (k ≡ 1 → ⊥) → (k ≡ 3 → ⊥) → (k ≡ 4 → ⊥) → (k ≡ 5 → ⊥) → k ≡ 2
only_two =
    kinds (λ (k : ℕ). k ≤ 5 → (k ≡ 0 → ⊥) → (k ≡ 1 → ⊥) → (k ≡ 3 → ⊥) → (k ≡ 4 → ⊥) → (k ≡ 5 → ⊥) → k ≡ 2)
    (λ l a b d e g. absurd (a refl)) (λ l a b d e g. absurd (b refl)) (λ l a b d e g. refl)
    (λ l a b d e g. absurd (d refl)) (λ l a b d e g. absurd (e refl)) (λ l a b d e g. absurd (g refl)) (λ k h l a b d e g. absurd (omega arith))

pub operations : (P : ℕ → Type 0) → P 30 → P 31 → P 32 → P 33 → P 34 → P 35 → P 36 → (o : ℕ) → 30 ≤ o → o ≤ 36 → P o
operations P a b c d e f g o l h = subst P (omega arith) (from30 (o - 30) (omega arith))
  where
    from30 : (i : ℕ) → i ≤ 6 → P (30 + i)
    from30 zero z = a
    from30 (suc zero) z = b
    from30 (suc (suc zero)) z = c
    from30 (suc (suc (suc zero))) z = d
    from30 (suc (suc (suc (suc zero)))) z = e
    from30 (suc (suc (suc (suc (suc zero))))) z = f
    from30 (suc (suc (suc (suc (suc (suc zero)))))) z = g
    from30 (suc (suc (suc (suc (suc (suc (suc i))))))) z = absurd (omega arith)
