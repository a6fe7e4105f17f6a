-- Keys and slots: what a search finds, and what another key in a slot changes. Lists alone.
use Rattle.prelude.proofs.Prelude.{ℕ, zero, suc, ◌<◌, ◌≤◌, ◌≡◌, refl, sym, ◌∙◌, ap, List, [], ◌∷◌, Bool, true, false, not, ◌&&◌, ◌||◌, cond, eqb, eqb-false, eq-eqb, ne_eqb, lt-ltb, le-ltb}
use Rattle.prelude.proofs.{Prelude.{not-true, arith, length, get_or, set}, Ways.by_cases}
use Rattle.phases.proofs.Choice.{by_number, never, first_of, second_of}
use Rattle.coding.specs.Reader.{among}
use Rattle.std.proofs.Common.{Option, Some, None, is_some}
use Rattle.std.specs.List.{position, position_or_len}
use Rattle.std.proofs.lemmas.List.Recursion.{is_position_or_len}
use Rattle.board_rules.specs.Board.{lowest, held_in}
use Rattle.board_rules.specs.inner.ByValue.{slot_with}

-- ---- what a search finds

pub found : (k : ℕ) (l : List ℕ) → among k l ≡ true → (lowest k l < length l) × (get_or l (lowest k l) 0 ≡ k)
unfolding lowest
found k [] q = never q
found k (x ∷ l) q =
    by_number k x (λ e. rw (eq-eqb k x e) (omega arith, sym e))
    (λ e. rw e (let z = found k l (rw e at q) in (omega (arith, z.0), z.1)))

pub missing : (k : ℕ) (l : List ℕ) → among k l ≡ false → lowest k l ≡ length l
unfolding lowest
missing k [] q = refl
missing k (x ∷ l) q = by_number k x (λ e. never (sym (rw (eq-eqb k x e) at q))) (λ e. rw e (ap suc (missing k l (rw e at q))))

-- no slot below the one that is found has the key
pub none_lower : (k : ℕ) (l : List ℕ) (i : ℕ) → i < lowest k l → get_or l i 0 ≡ k → ⊥
unfolding lowest
none_lower k [] i h q = omega arith
none_lower k (x ∷ l) zero h q = let z : lowest k (x ∷ l) ≡ 0 = rw (eq-eqb k x (sym q)) refl in omega (arith, z)
none_lower k (x ∷ l) (suc i) h q =
    by_number k x (λ e. let z : lowest k (x ∷ l) ≡ 0 = rw (eq-eqb k x e) refl in omega (arith, z))
    (λ e. let z : lowest k (x ∷ l) ≡ suc (lowest k l) = rw e refl in none_lower k l i (omega (arith, z)) q)

-- ---- another key in a slot: of a key that is neither the old one nor the new one nothing changes

pub kept_among : (j : ℕ) (l : List ℕ) (i k : ℕ) → (j ≡ k → ⊥) → (j ≡ get_or l i 0 → ⊥) → among j (set l i k) ≡ among j l
kept_among j [] i k n o = refl
kept_among j (x ∷ l) zero k n o = rw (ne_eqb j k n, ne_eqb j x o) refl
kept_among j (x ∷ l) (suc i) k n o = ap (λ b. eqb j x || b) (kept_among j l i k n o)

pub kept_lowest : (j : ℕ) (l : List ℕ) (i k : ℕ) → (j ≡ k → ⊥) → (j ≡ get_or l i 0 → ⊥) → lowest j (set l i k) ≡ lowest j l
unfolding lowest
kept_lowest j [] i k n o = refl
kept_lowest j (x ∷ l) zero k n o = rw (ne_eqb j k n, ne_eqb j x o) refl
kept_lowest j (x ∷ l) (suc i) k n o = ap (λ m. cond (eqb j x) 0 (suc m)) (kept_lowest j l i k n o)

-- a key that no slot had
pub new_among : (l : List ℕ) (i k : ℕ) → i < length l → among k (set l i k) ≡ true
new_among [] i k h = absurd (omega arith)
new_among (x ∷ l) zero k h = rw (eq-eqb k k refl) refl
new_among (x ∷ l) (suc i) k h = by_cases (eqb k x) (λ e. rw e refl) (λ e. rw e (new_among l i k (omega arith)))

pub new_lowest : (l : List ℕ) (i k : ℕ) → i < length l → among k l ≡ false → lowest k (set l i k) ≡ i
unfolding lowest
new_lowest [] i k h q = absurd (omega arith)
new_lowest (x ∷ l) zero k h q = rw (eq-eqb k k refl) refl
new_lowest (x ∷ l) (suc i) k h q =
    by_cases (eqb k x) (λ e. never (sym (rw e at q))) (λ e. rw e (ap suc (new_lowest l i k (omega arith) (rw e at q))))

-- ---- how many slots are held

pub at_most : (l : List ℕ) → held_in l ≤ length l
unfolding held_in
at_most [] = omega arith
at_most (x ∷ l) = by_cases (eqb 0 x) (λ e. rw e (omega (arith, at_most l))) (λ e. rw e (omega (arith, at_most l)))

-- all of them exactly when none is free
pub free_fewer : (l : List ℕ) → among 0 l ≡ true → held_in l < length l
unfolding held_in
free_fewer [] q = never q
free_fewer (x ∷ l) q = by_cases (eqb 0 x) (λ e. rw e (omega (arith, at_most l))) (λ e. rw e (omega (arith, free_fewer l (rw e at q))))

pub none_free : (l : List ℕ) → among 0 l ≡ false → held_in l ≡ length l
unfolding held_in
none_free [] q = refl
none_free (x ∷ l) q = by_cases (eqb 0 x) (λ e. never (sym (rw e at q))) (λ e. rw e (ap suc (none_free l (rw e at q))))

pub held_more : (l : List ℕ) (i k : ℕ) → i < length l → get_or l i 0 ≡ 0 → (0 ≡ k → ⊥) → held_in (set l i k) ≡ suc (held_in l)
unfolding held_in
held_more [] i k h q n = absurd (omega arith)
held_more (x ∷ l) zero k h q n = rw (q, ne_eqb 0 k n) refl
held_more (x ∷ l) (suc i) k h q n =
    by_cases (eqb 0 x) (λ e. rw e (held_more l i k (omega arith) q n)) (λ e. rw e (ap suc (held_more l i k (omega arith) q n)))

pub held_less : (l : List ℕ) (i : ℕ) → i < length l → (0 ≡ get_or l i 0 → ⊥) → suc (held_in (set l i 0)) ≡ held_in l
unfolding held_in
held_less [] i h n = absurd (omega arith)
held_less (x ∷ l) zero h n = rw (ne_eqb 0 x n) refl
held_less (x ∷ l) (suc i) h n =
    by_cases (eqb 0 x) (λ e. rw e (held_less l i (omega arith) n)) (λ e. rw e (ap suc (held_less l i (omega arith) n)))

-- ---- the references held are all different

abbrev pub differ : List ℕ → Bool
differ [] = true
differ (x ∷ l) = (eqb 0 x || not (among x l)) && differ l

still_none : (j : ℕ) (l : List ℕ) (i k : ℕ) → (j ≡ k → ⊥) → among j l ≡ false → among j (set l i k) ≡ false
still_none j [] i k n q = refl
still_none j (x ∷ l) zero k n q = rw (ne_eqb j k n) (by_cases (eqb j x) (λ e. never (sym (rw e at q))) (λ e. rw e at q))
still_none j (x ∷ l) (suc i) k n q = by_cases (eqb j x) (λ e. never (sym (rw e at q))) (λ e. rw e (still_none j l i k n (rw e at q)))

-- a slot is freed
pub differ_free : (l : List ℕ) (i : ℕ) → differ l ≡ true → differ (set l i 0) ≡ true
differ_free [] i q = refl
differ_free (x ∷ l) zero q = second_of (eqb 0 x || not (among x l)) (differ l) q
differ_free (x ∷ l) (suc i) q =
    let rest = differ_free l i (second_of (eqb 0 x || not (among x l)) (differ l) q) in
    by_number 0 x (λ e. rw (eq-eqb 0 x e) rest)
    (λ e. let q' = first_of (eqb 0 x || not (among x l)) (differ l) q in
    rw (e, still_none x l i 0 (λ z. eqb-false 0 x e (sym z)) (not-true (among x l) (rw e at q'))) rest)

-- a slot is given a key that none has
pub differ_new : (l : List ℕ) (i k : ℕ) → among k l ≡ false → differ l ≡ true → differ (set l i k) ≡ true
differ_new [] i k n q = refl
differ_new (x ∷ l) zero k n q =
    by_cases (eqb k x) (λ e. never (sym (rw e at n)))
    (λ e. let m : among k l ≡ false = rw e at n in
    by_cases (eqb 0 k) (λ z. rw z (second_of (eqb 0 x || not (among x l)) (differ l) q)) (λ z. rw (z, m) (second_of (eqb 0 x || not (among x l)) (differ l) q)))
differ_new (x ∷ l) (suc i) k n q =
    by_number k x (λ e. never (sym (rw (eq-eqb k x e) at n)))
    (λ d. let m : among k l ≡ false = rw d at n in
    let rest = differ_new l i k m (second_of (eqb 0 x || not (among x l)) (differ l) q) in
    by_cases (eqb 0 x) (λ e. rw e rest)
    (λ e. let q' = first_of (eqb 0 x || not (among x l)) (differ l) q in
    rw (e, still_none x l i k (λ z. eqb-false k x d (sym z)) (not-true (among x l) (rw e at q'))) rest))

-- once it is freed, no slot has its key
pub gone : (k : ℕ) (l : List ℕ) → (k ≡ 0 → ⊥) → differ l ≡ true → among k (set l (lowest k l) 0) ≡ false
unfolding lowest
gone k [] n q = refl
gone k (x ∷ l) n q =
    by_number k x
    (λ e. let q' = first_of (eqb 0 x || not (among x l)) (differ l) q in
    rw (eq-eqb k x e, ne_eqb k 0 n)
    (ap (λ j. among j l) e ∙ not-true (among x l) (rw (ne_eqb 0 x (λ z. n (e ∙ sym z))) at q')))
    (λ e. rw (e, e) (gone k l n (second_of (eqb 0 x || not (among x l)) (differ l) q)))

in_list_lem : (l : List ℕ) (i : ℕ) → (get_or l i 0 ≡ 0 → ⊥) → among (get_or l i 0) l ≡ true
in_list_lem [] i n = absurd (n refl)
in_list_lem (x ∷ l) zero n = rw (eq-eqb x x refl) refl
in_list_lem (x ∷ l) (suc i) n = by_cases (eqb (get_or l i 0) x) (λ e. rw e refl) (λ e. rw e (in_list_lem l i n))

-- two slots that are held by one reference are one slot
pub one_slot : (l : List ℕ) → differ l ≡ true → (i j : ℕ) → (get_or l i 0 ≡ 0 → ⊥) → get_or l i 0 ≡ get_or l j 0 → i ≡ j
one_slot [] q i j n e = absurd (n refl)
one_slot (x ∷ l) q zero zero n e = refl
one_slot (x ∷ l) q zero (suc j) n e =
    let z : among x l ≡ true = ap (λ k. among k l) e ∙ in_list_lem l j (λ y. n (e ∙ y)) in
    never (rw (ne_eqb 0 x (λ y. n (sym y)), z) at (first_of (eqb 0 x || not (among x l)) (differ l) q))
one_slot (x ∷ l) q (suc i) zero n e =
    let z : among x l ≡ true = ap (λ k. among k l) (sym e) ∙ in_list_lem l i n in
    never (rw (ne_eqb 0 x (λ y. n (e ∙ sym y)), z) at (first_of (eqb 0 x || not (among x l)) (differ l) q))
one_slot (x ∷ l) q (suc i) (suc j) n e = ap suc (one_slot l (second_of (eqb 0 x || not (among x l)) (differ l) q) i j n e)

-- ---- the search

lowest_is : (k : ℕ) (l : List ℕ) → lowest k l ≡ position_or_len (λ x. eqb k x) l
unfolding lowest
lowest_is k l = is_position_or_len (lowest k) (λ x. eqb k x) refl (λ x xs. ap (cond (eqb k x) 0) (omega arith)) l

pub position_is : (k : ℕ) (l : List ℕ) → position (λ x. eqb k x) l ≡ slot_with k l
position_is k l = rw (← lowest_is k l) (by_cases (among k l)
    (λ q. rw (q, lt-ltb (lowest k l) (length l) (found k l q).0) refl)
    (λ q. rw (q, le-ltb (lowest k l) (length l) (omega (arith, missing k l q))) refl))

-- what was found, and that nothing was
abbrev value_or_zero : Option ℕ → ℕ
value_or_zero None = 0
value_or_zero (Some i) = i

pub slot_some : (k : ℕ) (l : List ℕ) (i : ℕ) → slot_with k l ≡ Some i → (among k l ≡ true) × (lowest k l ≡ i)
slot_some k l i e =
    by_cases (among k l)
    (λ q. (q, ap value_or_zero (rw q at e)))
    (λ q. never (ap is_some (rw q at e)))

pub slot_none : (k : ℕ) (l : List ℕ) → slot_with k l ≡ None → among k l ≡ false
slot_none k l e = by_cases (among k l) (λ q. never (sym (ap is_some (rw q at e)))) (λ q. q)
