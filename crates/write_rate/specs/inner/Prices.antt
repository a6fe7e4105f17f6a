-- What a rate's fields may be, and its octets, by its kind: 1 duration, 2 flat, 3 volume, 4 a code, 5 free, 6 unknown, 7 free from the beginning.
use Rattle.std.specs.Prelude.{ℕ, ◌+◌, Bool, true, false, ◌&&◌, cond, List, [], ◌++◌, leb, eqb}
use Rattle.coding.specs.Codec.{maybe}
use Rattle.coding.specs.inner.Written.{lead, full_number}
use Rattle.write_elements.specs.inner.Element.{element}
use Rattle.types.specs.declared.Rate.{Rate}
use Rattle.types.specs.Charges.{no_money, scaled, money}
use Rattle.types.specs.Rates.{money_of, time_of, step_of}
use Rattle.types.specs.Arguments.{same_money}

-- ---- which may be written

-- 7 is of a trunk alone
abbrev pub last_kind : Bool → ℕ
last_kind true = 7
last_kind false = 6

-- a type 0 to 1, a unit 0 to 2, a code 1 to 10; zero for the other kinds
unfoldable pub detail_fine : Bool → ℕ → ℕ → Bool
detail_fine trunk k d =
    cond (eqb k 1) (leb d 1)
    (cond (eqb k 3) (leb d 2)
    (cond (eqb k 4) (leb 1 d && leb d 10)
    ((leb 2 k && leb k (last_kind trunk)) && eqb 0 d)))

abbrev pub unstepped : Rate → Bool
unstepped r = eqb 0 r.stepped && (eqb 0 r.stepscale && eqb 0 r.step)

abbrev pub step_fine : Rate → Bool
step_fine r = cond (eqb r.stepped 1) ((scaled 0xa5).valid (record { number = r.step; scale = r.stepscale })) (unstepped r)

-- a duration has a time, and a step or none; the others have neither
unfoldable pub times_fine : Rate → Bool
times_fine r =
    cond (eqb r.kind 1) ((scaled 0xa4).valid (time_of r) && step_fine r)
    ((eqb 0 r.scale && eqb 0 r.time) && unstepped r)

-- kinds 1 to 3 have an amount
unfoldable pub amount_fine : Bool → Rate → Bool
amount_fine trunk r = cond (leb r.kind 3) ((money trunk).valid (money_of r)) (same_money no_money (money_of r))

-- all but the item
unfoldable pub price_fine : Bool → Rate → Bool
price_fine trunk r = detail_fine trunk r.kind r.detail && (times_fine r && amount_fine trunk r)

-- ---- the octets; those of document 01 are written as a trunk's

-- optional A5 time
unfoldable pub step_octets : Rate → List ℕ
step_octets r = (maybe 0xa5 (scaled 0xa5)).write (step_of r)

-- what comes after the amount: nothing; 83 unit; 83 type, A4 time and the step
unfoldable pub term_octets : Rate → List ℕ
term_octets r =
    cond (eqb r.kind 2) []
    (cond (eqb r.kind 3) (full_number 0x83 r.detail) (full_number 0x83 r.detail ++ ((scaled 0xa4).write (time_of r) ++ step_octets r)))

unfoldable pub priced_octets : Rate → List ℕ
priced_octets r = (money true).write (money_of r) ++ term_octets r

unfoldable pub price_octets : Rate → List ℕ
price_octets r =
    cond (leb r.kind 3) (element (0xa0 + r.kind) (priced_octets r))
    (cond (eqb r.kind 4) (full_number 0x02 r.detail)
    (cond (eqb r.kind 5) (lead 0x84 0)
    (cond (eqb r.kind 6) (lead 0x85 0) (lead 0x86 0))))
