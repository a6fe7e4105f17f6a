-- Which lists of units may be written.
use Rattle.prelude.proofs.Prelude.{ℕ, ◌+◌, ◌*◌, ◌≤◌, ◌<◌, ◌≡◌, refl, sym, ap, ◌∙◌, not, ◌&&◌, List, [], ◌∷◌, arith, one-mul, add-one, length, get_or, take, drop, leb, eqb, ne_eqb, le-leb}
use Rattle.coding.specs.Codec.{all}
use Rattle.types.specs.Entries.{unit, unit_numbers, unit_octets, unit_at, unit_list}
use Rattle.write_tests.specs.inner.Fine.{laid, unused_zero, units_fine}
use Rattle.write_rates.proofs.Tables.{picks, picks_taken, list_fine}

-- a row holds its entry: a number and two octets
module _ (numbers octets : List ℕ) (i : ℕ) where
  unit_low : i < length numbers → unit_numbers (unit_at (laid numbers octets) i) ≡ take 1 (drop (1 * i) numbers)
  unfolding picks
  unit_low h = picks_taken 1 i numbers (omega arith) ∙ ap (λ (k : ℕ). take 1 (drop k numbers)) (sym (one-mul i))

  unit_small : 2 * i + 2 ≤ length octets → unit_octets (unit_at (laid numbers octets) i) ≡ take 2 (drop (2 * i) octets)
  unfolding picks
  unit_small h = ap (λ (k : ℕ). get_or octets (2 * i) 0 ∷ get_or octets k 0 ∷ []) (add-one (2 * i)) ∙ picks_taken 2 (2 * i) octets (omega arith)

pub units_is : (numbers octets : List ℕ) (n : ℕ) → length numbers ≡ 32 → length octets ≡ 192 → units_fine (laid numbers octets) n
    ≡ not (eqb n 0) && (leb n 32 && (unused_zero numbers octets n (2 * n) && all unit.valid (unit_list (laid numbers octets) n)))
unfolding units_fine
units_is numbers octets n ln lo =
    list_fine unit 32 1 2 unit_numbers unit_octets (unit_at (laid numbers octets)) numbers octets n n (2 * n) (one-mul n) refl ln lo (λ h. omega arith)
    (λ i l. unit_low numbers octets i (omega arith)) (λ i l. unit_small numbers octets i (omega arith))

-- where there are 1 to 32 of them
pub units_are : (numbers octets : List ℕ) (n : ℕ) → length numbers ≡ 32 → length octets ≡ 192 → (n ≡ 0 → ⊥) → n ≤ 32
    → units_fine (laid numbers octets) n ≡ unused_zero numbers octets n (2 * n) && all unit.valid (unit_list (laid numbers octets) n)
units_are numbers octets n ln lo some few = units_is numbers octets n ln lo ∙ rw (ne_eqb n 0 some, le-leb n 32 few)
