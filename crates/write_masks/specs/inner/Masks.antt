-- The octets of a figure that its kind uses. All others must be zero, which is one test for each kind.
use Rattle.std.specs.Prelude.{ℕ, Bool, false, not, ◌&&◌, ◌||◌, cond, List, [], ◌∷◌, ◌++◌, get_or, replicate, leb, eqb}
use Rattle.coding.specs.Codec.{same_list}
use Rattle.types.specs.declared.Figure.{Figure}
use Rattle.types.specs.Charges.{money}
use Rattle.types.specs.Stored.{money_in}
use Rattle.write_tests.specs.inner.Fine.{bare_kind}

-- A mask is text, an x for an octet that is used and a point for one that must be zero: 16 of money, 26 of an association, then the small fields.
-- The last of these is the count, which goes with the list.
abbrev pub is_used : ℕ → List ℕ
is_used n = replicate n 0x78

abbrev pub is_zero : ℕ → List ℕ
is_zero n = replicate n 0x2e

-- by whether there is an association
abbrev pub with_money : Bool → List ℕ → List ℕ
with_money a small = cond a (is_used 16 ++ (is_used 26 ++ small)) (is_used 16 ++ (is_zero 26 ++ small))

abbrev pub without_money : Bool → List ℕ → List ℕ
without_money a small = cond a (is_zero 16 ++ (is_used 26 ++ small)) (is_zero 16 ++ (is_zero 26 ++ small))

-- the small fields: the kind, the total, two of the billing, the arrangement, the count
abbrev pub priced_mask : List ℕ
priced_mask = is_used 4 ++ (is_zero 1 ++ is_used 1)

abbrev pub arranged_mask : List ℕ
arranged_mask = is_used 1 ++ (is_zero 3 ++ is_used 2)

-- not available, free and rates
abbrev pub bare_mask : List ℕ
bare_mask = is_used 1 ++ (is_zero 4 ++ is_used 1)

-- what must be zero of octets
abbrev pub masked : List ℕ → List ℕ → List ℕ
masked [] s = []
masked (u ∷ us) [] = []
masked (u ∷ us) (x ∷ xs) = cond (eqb u 0x2e) x 0 ∷ masked us xs

unfoldable pub clear_but : List ℕ → List ℕ → Bool
clear_but used s = same_list eqb (replicate 48 0) (masked used s)

-- the mask of a kind
unfoldable pub mask_of : Bool → ℕ → List ℕ
mask_of a k =
    cond (eqb k 2) (with_money a priced_mask)
    (cond (eqb k 3) (without_money a priced_mask)
    (cond (eqb k 5) (without_money a arranged_mask) (without_money a bare_mask)))

-- ---- the ranges of what is used

abbrev pub billed_fine : ℕ → ℕ → ℕ → Bool
billed_fine most billed billing = cond (eqb billed 1) (leb billing most) (eqb 0 billed && eqb 0 billing)

-- of the octets of a figure
abbrev pub priced_fine : ℕ → ℕ → ℕ → List ℕ → Bool
priced_fine during ending o s =
    cond (eqb o during) (leb (get_or s 43 0) 1 && billed_fine 2 (get_or s 44 0) (get_or s 45 0))
    (cond (eqb o ending) (eqb 0 (get_or s 43 0) && billed_fine 7 (get_or s 44 0) (get_or s 45 0)) false)

abbrev pub arranged_fine : ℕ → ℕ → Bool
arranged_fine o arrangement = (eqb o 30 || eqb o 32) && (leb 1 arrangement && leb arrangement 10)

-- all that a kind uses but the association
unfoldable pub used_fine : ℕ → ℕ → List ℕ → Bool
used_fine o k s =
    cond (eqb k 2) (priced_fine 33 35 o s && (money false).valid (money_in s))
    (cond (eqb k 3) (priced_fine 34 36 o s)
    (cond (eqb k 5) (arranged_fine o (get_or s 46 0)) (bare_kind o k)))

-- ---- a figure's octets, tested by its kind's mask and by the ranges of what is used

-- an association may stand there, and does
abbrev pub associated : ℕ → Figure → Bool
associated o f = leb 35 o && (not (eqb f.kind 0) && not (eqb f.association.kind 0))

-- all but the association
abbrev pub masked_fine : Bool → ℕ → List ℕ → Bool
masked_fine a o s = clear_but (mask_of a (get_or s 42 0)) s && used_fine o (get_or s 42 0) s
