-- The sums of units by type and the count of entries not available: picked out, then summed, where no sum wraps. Assumes nothing.
use Rattle.prelude.proofs.Prelude.{ℕ, zero, suc, ◌+◌, ◌*◌, ◌^◌, ◌<◌, ◌≤◌, ◌≡◌, refl, sym, ◌∙◌, ap, ap₂, List, [], ◌∷◌, Bool, true, false, cond, eqb, eqb-false, eq-eqb, le-leb, arith}
use Rattle.prelude.proofs.{Prelude.{length, get_or, length-set, mod-eq_of_lt, suc-mul}, Ways.by_cases}
use lib.Seq.{get_or-set_same, get_or-set_other}
use Rattle.coding.{specs.Codec.all, specs.Rows.table, proofs.Basic.and_left, proofs.Basic.and_right}
use Rattle.phases.proofs.Choice.{by_number}
use Rattle.types.specs.{declared.Units.Units, declared.Entries.Entries, Entries.unit, Entries.unit_at, Entries.unit_list}
use Rattle.month_rows.specs.{Rows.plus, Sums.add_unit, Sums.sum_units, Sums.count_absent}
use Rattle.month_totals.specs.Totals.{Posted, which, total, of_type, is_absent, entries_of, units_in, absent_in}
use Rattle.month_totals.proofs.{Filled.fewer, Ranges.{AllFine, none, more, number, unit_type, few_entries, entries_small}}

-- ---- the entries from one on

unfoldable pub entries_from : Entries → ℕ → ℕ → List Units
entries_from e i zero = []
entries_from e i (suc n) = unit_at e i ∷ entries_from e (i + 1) n

pub table_same : {A : Type 0} (n : ℕ) (f g : ℕ → A) → ((i : ℕ) → f i ≡ g i) → table n f ≡ table n g
unfolding table
table_same zero f g e = refl
table_same {A} (suc n) f g e = ap₂ (λ (x : A) (l : List A). x ∷ l) (e 0) (table_same n (λ i. f (suc i)) (λ i. g (suc i)) (λ i. e (suc i)))

from_table : (e : Entries) (i n : ℕ) → entries_from e i n ≡ table n (λ j. unit_at e (i + j))
unfolding entries_from table
from_table e i zero = refl
from_table e i (suc n) =
    ap₂ (λ (x : Units) (l : List Units). x ∷ l) (ap (unit_at e) (let z : i ≡ i + 0 = omega arith in z))
    (from_table e (i + 1) n ∙ table_same n (λ j. unit_at e (i + 1 + j)) (λ j. unit_at e (i + suc j)) (λ j. ap (unit_at e) (let z : i + 1 + j ≡ i + suc j = omega arith in z)))

pub whole_list : (e : Entries) (n : ℕ) → entries_from e 0 n ≡ unit_list e n
whole_list e n = from_table e 0 n ∙ table_same n (λ j. unit_at e (0 + j)) (unit_at e) (λ j. ap (unit_at e) (let z : 0 + j ≡ j = omega arith in z))

-- ---- one entry

kept_length : (u : Units) (s : List ℕ) → length (add_unit u s) ≡ length s
kept_length u s = by_cases (eqb u.known 1) (λ q. rw q (length-set s _ _)) (λ q. rw q refl)

one_unit : (u : Units) (s : List ℕ) (k : ℕ) → unit.valid u ≡ true → length s ≡ 17 → k < 17 → get_or s k 0 + u.number < 2 ^ 64
    → get_or (add_unit u s) k 0 ≡ get_or s k 0 + cond (of_type k u) u.number 0
one_unit u s k v n h f =
    let small = le-leb u.kind 16 (unit_type u v) in
    by_cases (eqb u.known 1)
    (λ q. by_number u.kind k
    (λ e. rw (q, small, e, eq-eqb k k refl, get_or-set_same s k (plus 64 (get_or s k 0) u.number) 0 (omega (arith, n, h))) (mod-eq_of_lt f))
    (λ e. rw (q, small, e, get_or-set_other s u.kind k (plus 64 (get_or s u.kind 0) u.number) 0 (λ y. eqb-false u.kind k e (sym y))) (omega arith)))
    (λ q. rw q (omega arith))

-- ---- all entries of a list

summed : (t : Bool) (u : Units) (l : List Units) → total number (cond t (u ∷ l) l) ≡ cond t (number u) 0 + total number l
summed true u l = refl
summed false u l = omega arith

at_most_one : (t : Bool) (n : ℕ) → cond t n 0 ≤ n
at_most_one true n = omega arith
at_most_one false n = omega arith

pub units_sum : (e : Entries) (i n : ℕ) (s : List ℕ) (k : ℕ) → all unit.valid (entries_from e i n) ≡ true → length s ≡ 17 → k < 17
    → get_or s k 0 + total number (entries_from e i n) < 2 ^ 64 → get_or (sum_units e i n s) k 0 ≡ get_or s k 0 + total number (which (of_type k) (entries_from e i n))
unfolding sum_units entries_from
units_sum e i zero s k v w h f = omega arith
units_sum e i (suc n) s k v w h f =
    let u : Units = unit_at e i in
    let a = one_unit u s k (and_left (unit.valid u) _ v) w h (omega (arith, f)) in
    let b = at_most_one (of_type k u) u.number in
    let r = units_sum e (i + 1) n (add_unit u s) k (and_right (unit.valid u) _ v) (kept_length u s ∙ w) h (omega (arith, f, a, b)) in
    let p = summed (of_type k u) u (which (of_type k) (entries_from e (i + 1) n)) in
    omega (arith, r, a, p)

pub absent_sum : (e : Entries) (i n s : ℕ) → s + n < 2 ^ 32 → count_absent e i n s ≡ s + length (which is_absent (entries_from e i n))
unfolding count_absent entries_from
absent_sum e i zero s f = omega arith
absent_sum e i (suc n) s f =
    by_cases (eqb (unit_at e i).known 1)
    (λ q. let r = absent_sum e (i + 1) n s (omega (arith, f)) in rw q r)
    (λ q. let a : plus 32 s 1 ≡ s + 1 = mod-eq_of_lt (let z : s + 1 < 2 ^ 32 = omega (arith, f) in z) in
    let r = absent_sum e (i + 1) n (s + 1) (omega (arith, f)) in
    rw (q, a) (omega (arith, r)))

pub units_length : (e : Entries) (i n : ℕ) (s : List ℕ) → length (sum_units e i n s) ≡ length s
unfolding sum_units
units_length e i zero s = refl
units_length e i (suc n) s = units_length e (i + 1) n (add_unit (unit_at e i) s) ∙ kept_length (unit_at e i) s

-- ---- of all figures

fewer_number : (t : Units → Bool) (l : List Units) → total number (which t l) ≤ total number l
fewer_number t [] = omega arith
fewer_number t (u ∷ l) = let z = fewer_number t l in by_cases (t u) (λ q. rw q (omega (arith, z))) (λ q. rw q (omega (arith, z)))

pub units_small : (k : ℕ) {h : List Posted} → AllFine h → total (units_in k) h ≤ length h * 536870880
units_small k none = omega arith
units_small k (more {p} {h} f s) =
    let z = units_small k s in let y = suc-mul (length h) 536870880 in let x = fewer_number (of_type k) (entries_of p) in let w = entries_small p f in omega (arith, z, y, x, w)

pub absent_small : {h : List Posted} → AllFine h → total absent_in h ≤ length h * 32
absent_small none = omega arith
absent_small (more {p} {h} f s) =
    let z = absent_small s in let y = suc-mul (length h) 32 in let x = fewer is_absent (entries_of p) in let w = few_entries p f in omega (arith, z, y, x, w)
