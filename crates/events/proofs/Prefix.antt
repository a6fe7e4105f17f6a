-- The first events of a list in slices: one more, all of them, and where their octets lie.
use Rattle.prelude.proofs.Prelude.{ℕ, zero, suc, ◌+◌, ◌-◌, ◌/◌, ◌%◌, ◌≤◌, ◌<◌, ◌≡◌, refl, sym, ◌∙◌, ap, List, ◌∷◌, reverse, reverse_aux, true, eqb, arith, length, take, drop}
use Rattle.prelude.proofs.Prelude.{add-one, add-zero, zero-add, sub-zero}
use Rattle.coding.proofs.Basic.{and_right}
use Rattle.phases.specs.Phases.{Given}
use Rattle.events.specs.{Events.{count_at, rows_fit, adds_up, events_from, events_of}, inner.Prefix.{place_at, octets_at, given_at, before}}
use Rattle.events.proofs.Laws.{fits_start, fits_one, fits_more}

-- ---- their octets lie inside

module _ (rows : List ℕ) (total : ℕ) (adds : adds_up rows total ≡ true) where
  -- the counts from row i on add up to the octets that are left
  fits_at : (i : ℕ) → i ≤ length rows / 6 → (place_at rows i ≤ total) × (rows_fit rows i (length rows / 6 - i) (total - place_at rows i) ≡ true)
  unfolding place_at adds_up
  fits_at zero h = (
    omega arith,
    ap (rows_fit rows 0 (length rows / 6 - 0)) (sub-zero total) ∙ fits_start rows (length rows / 6) total ∙ and_right (eqb (length rows % 6) 0) _ adds,
  )
  fits_at (suc i) h =
      let here = fits_at i (omega arith) in
      let k : count_at rows i ≤ total - place_at rows i = fits_one rows i (length rows / 6) (total - place_at rows i) (omega arith) here.1 in
      let m : total - place_at rows i - count_at rows i ≡ total - (place_at rows i + count_at rows i) = omega arith in
      let rest = sym (fits_more rows i (length rows / 6) (total - place_at rows i) (count_at rows i) refl (omega arith) k) ∙ here.1 in
      (omega (arith, here.0, k), rw (add-one i, m) at rest)

  pub place_fits : (i : ℕ) → i < length rows / 6 → place_at rows i + count_at rows i ≤ total
  place_fits i h = let here = fits_at i (omega arith) in omega (arith, here.0, fits_one rows i (length rows / 6) (total - place_at rows i) h here.1)

module _ (rows octets : List ℕ) where
  pub place_next : (i : ℕ) → place_at rows (i + 1) ≡ place_at rows i + count_at rows i
  unfolding place_at
  place_next i = ap (place_at rows) (add-one i)

  pub before_next : (i : ℕ) → before rows octets (i + 1) ≡ given_at rows octets i ∷ before rows octets i
  unfolding before
  before_next i = ap (before rows octets) (add-one i)

  pub before_count : (k : ℕ) → length (before rows octets k) ≡ k
  unfolding before
  before_count zero = refl
  before_count (suc k) = ap suc (before_count k)

  rest_before : (k i : ℕ) → reverse_aux (events_from rows octets i k (place_at rows i)) (before rows octets i) ≡ before rows octets (i + k)
  unfolding events_from
  rest_before zero i = ap (before rows octets) (sym (add-zero i))
  rest_before (suc k) i =
      ap (λ (l : List Given). reverse_aux (events_from rows octets (i + 1) k (place_at rows i + count_at rows i)) l) (sym (before_next i))
      ∙ ap (λ (p : ℕ). reverse_aux (events_from rows octets (i + 1) k p) (before rows octets (i + 1))) (sym (place_next i))
      ∙ rest_before k (i + 1)
      ∙ ap (before rows octets) (omega arith)

  -- all of them are the list that is read off the slices, the latest first
  pub all_before : before rows octets (length rows / 6) ≡ reverse (events_of rows octets)
  unfolding events_of before place_at
  all_before = sym (rest_before (length rows / 6) 0 ∙ ap (before rows octets) (zero-add (length rows / 6)))

  -- ---- a turn of a loop, before event i (the code's place and count are at and c)

  module _ (i : ℕ) {at c : ℕ} (place : at ≡ place_at rows i) (counted : c ≡ count_at rows i) where
    -- what it takes of the octets
    pub part_at : take (at + c - at) (drop at octets) ≡ octets_at rows octets i
    part_at = let n : at + c - at ≡ count_at rows i = omega (arith, counted) in rw (n, place) refl

    pub turn_inside : adds_up rows (length octets) ≡ true → i < length rows / 6 → at + c ≤ length octets
    turn_inside a h = omega (arith, place_fits rows (length octets) a i h)

    pub next_place : at + c ≡ place_at rows (i + 1)
    next_place = rw (place, counted) (sym (place_next i))
