-- The cast of an amount's thousandths is exact, and the machine's division of it by 1000 is the double nearest to the quotient. Assumes nothing.
use Rattle.prelude.proofs.Prelude.{◌≡◌, subst, ℕ, suc, ◌*◌, ◌^◌, ◌≤◌, ◌<◌, arith, Bool, true, false, T, le→leb, ℤ, pos, negsuc, pow_pos, Float, nan, inf, fin, binary64, up, down, of_int}
use Rattle.prelude.proofs.Prelude.{of_bits, div, round, in_float, to_unsigned, HasValue, round_whole, unsigned_back, round_same}
use Rattle.types.specs.{declared.Charge.Charge, Thousandths.thousandths}
use Rattle.amounts.proofs.Bounded.{bounded}
use Rattle.closing.{specs.Range.in_range, proofs.Small.small}
use Rattle.price.specs.Price.{as_double, quotient_of}

pub in_range_lem : (n : ℕ) → n ≤ 16777215000000 → T (in_float binary64 (pos n))
unfolding in_float
in_range_lem n h = le→leb n (2 ^ 53) (omega arith)

-- the double's value is n / 1, and it is not negative
pub exact : (n : ℕ) → n ≤ 16777215000000 → HasValue (as_double n) false n 1
unfolding as_double of_int
exact n h = round_whole binary64 false n (omega arith)

-- cast back it is n
pub comes_back : (n : ℕ) → n ≤ 16777215000000 → to_unsigned 64 (as_double n) ≡ n
unfolding as_double
comes_back n h = (unsigned_back binary64 64 n (in_range_lem n h) (omega arith)).1

down_pos : (e : ℤ) → 0 < down e
down_pos (pos k) = omega arith
down_pos (negsuc k) = pow_pos (suc k)

-- a double that is n, divided by 1000.0, which is 125 * 2 ^ 3
divided : (x : Float) (n : ℕ) → HasValue x false n 1 → div binary64 x (fin false 125 (pos 3)) ≡ round binary64 false n 1000
unfolding div
divided nan n v = absurd v
divided (inf s) n v = absurd v
divided (fin true m e) n v = absurd (let z : ◌≡◌ {A = Bool} true false = v.0 in subst T z tt)
divided (fin false m e) n v =
    round_same binary64 false (m * up e * 1) (125 * 8 * down e) n 1000 (omega (arith, down_pos e)) (omega arith)
    (let p : m * up e * 1 ≡ n * down e = v.1 in omega (arith, p))

pub one_division : (n : ℕ) → n ≤ 16777215000000 → div binary64 (as_double n) (of_bits binary64 4652007308841189376) ≡ quotient_of n
unfolding of_bits quotient_of
one_division n h = divided (as_double n) n (exact n h)

-- of any closing figure in range
pub price_exact : (service : ℕ) (c : Charge) → in_range service c ≡ true
    → HasValue (as_double (thousandths c.figure.money)) false (thousandths c.figure.money) 1
price_exact service c v = exact _ (bounded c.figure.money.number c.figure.money.multiplier (small service c v))
