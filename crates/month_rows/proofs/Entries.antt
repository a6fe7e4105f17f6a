-- The sums of a list's entries, entry by entry. Assumes nothing.
use Rattle.prelude.proofs.Prelude.{ℕ, suc, ◌+◌, ◌-◌, ◌<◌, ◌≤◌, ◌≡◌, refl, List, arith}
use Rattle.types.specs.{declared.Entries.Entries, Entries.unit_at}
use Rattle.month_rows.specs.Sums.{add_unit, add_absent, sum_units, count_absent}

module _ (e : Entries) (n i : ℕ) where
  module _ (h : i < n) where
    left : n - i ≡ suc (n - (i + 1))
    left = omega arith

    pub sum_goes : (s : List ℕ) → sum_units e (i + 1) (n - (i + 1)) (add_unit (unit_at e i) s) ≡ sum_units e i (n - i) s
    unfolding sum_units
    sum_goes s = rw left refl

    pub count_goes : (s : ℕ) → count_absent e (i + 1) (n - (i + 1)) (add_absent (unit_at e i) s) ≡ count_absent e i (n - i) s
    unfolding count_absent
    count_goes s = rw left refl

  module _ (h : n ≤ i) where
    none_left : n - i ≡ 0
    none_left = omega arith

    pub sum_ends : (s : List ℕ) → s ≡ sum_units e i (n - i) s
    unfolding sum_units
    sum_ends s = rw none_left refl

    pub count_ends : (s : ℕ) → s ≡ count_absent e i (n - i) s
    unfolding count_absent
    count_ends s = rw none_left refl

pub ruleset entries = (sum_goes, count_goes, sum_ends, count_ends)
