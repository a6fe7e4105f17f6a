-- The width of a number in octets from its leading zeros. The count of bits is tied to the number once, over any number of bits.
use Rattle.prelude.proofs.Prelude.{◌≡◌, ℕ, zero, suc, ◌+◌, ◌-◌, ◌*◌, ◌/◌, ◌^◌, ◌≤◌, ◌<◌, arith, pow-suc, pow_mono, count_leading_zeros, leading_top}
use Rattle.coding.{specs.Leaves.width, proofs.Digits.power_bits, proofs.Number.width_is}

-- j octets do not hold a number, where they do not hold the odd number beside it
least_odd : (j n v : ℕ) → v ≤ n / 2 * 2 + 1 → 256 ^ j ≤ 2 * v → 256 ^ j / 2 ≤ n
least_odd zero n v near h = omega arith
least_odd (suc j) n v near h = omega (arith, pow-suc 256 j)

-- n's octets, where the highest bit of v stands at m, and v is n or the odd number beside it
width_high : (n v m : ℕ) → n ≤ v → v ≤ n / 2 * 2 + 1 → 2 ^ m ≤ v → v < 2 ^ suc m → m ≤ 31 → (31 * m + 311) / 256 ≡ width n
width_high n v m low near under over top =
    let j : ℕ = (31 * m + 311) / 256 - 1 in
    let fewer : 2 ^ (8 * j) ≤ 2 ^ suc m = pow_mono (omega arith) in
    let held : j < 3 → 2 ^ suc (suc m) ≤ 2 ^ (8 * suc j) = λ i. pow_mono (omega arith) in
    let is = width_is j n (omega arith) (least_odd j n v near (omega (arith, power_bits j, pow-suc 2 m)))
    (λ i. omega (arith, held i, power_bits (suc j), pow-suc 2 (suc m))) in
    omega arith

-- the count of an odd number is below 32, and gives the width of the number and of the even one below it
pub zeros_odd : (v : ℕ) → v < 2 ^ 32 → 1 ≤ v → count_leading_zeros 32 v ≤ 31
zeros_odd v f p = omega (arith, (leading_top 32 v p f).1)

pub width_zeros : (n v : ℕ) → v < 2 ^ 32 → n ≤ v → v ≤ n / 2 * 2 + 1 → 1 ≤ v → (31 * (31 - count_leading_zeros 32 v) + 311) / 256 ≡ width n
width_zeros n v f low near p =
    let k = leading_top 32 v p f in omega (arith, k.1, width_high n v k.0 low near k.2 k.3 (omega (arith, k.1)))
