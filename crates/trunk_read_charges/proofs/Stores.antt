-- What stores of money and its billing make of a figure.
use Rattle.prelude.proofs.Prelude.{ℕ, arith, ◌≡◌, refl, Bool, List, set, drop, replicate}
use Rattle.coding.specs.Reader.{part}
use Rattle.types.specs.{declared.Charge.Charge, Charges.{flag, no_association}, Arguments.{plain, money_figure, totalled}}
use Rattle.types.{specs.Stored.{money_in, figure_in}, proofs.Stored.{by_front, figure_with, money_long}}
use Rattle.read_elements.specs.declared.Empty.{Empty}
use Rattle.read_figures.{specs.inner.Beside.Unassociated, proofs.Answers.arrived}
use Rattle.trunk_read_charges.specs.inner.Readers.{figured}

module _ (s : List ℕ) (m : drop 16 s ≡ replicate 32 0) (d b : ℕ) where
  pub priced_free : Unassociated (set (set (set s 42 2) 44 d) 45 b)
  unfolding part
  priced_free = by_front 16 (λ (t : List ℕ). Unassociated (set (set (set t 42 2) 44 d) 45 b)) (replicate 32 0) (λ f. refl) s (omega (arith, money_long s m)) m

  priced_figure : figure_in (set (set (set s 42 2) 44 d) 45 b) ≡ figure_with (money_in s) no_association 2 0 d b 0 0
  unfolding figure_in part
  priced_figure =
      by_front 16 (λ (t : List ℕ). figure_in (set (set (set t 42 2) 44 d) 45 b) ≡ figure_with (money_in t) no_association 2 0 d b 0 0) (replicate 32 0) (λ f. refl) s
      (omega (arith, money_long s m)) m

  pub priced_stored : {r : Empty} {v : ℕ × ℕ × Charge × ℕ} {n : ℕ} → r ≡ record { fault = 0; place = 0; next = n } → (g : Bool) → d ≡ flag g →
      (0, 0, totalled 0 (flag g) b (plain (money_figure (money_in s))), n) ≡ v → figured r (set (set (set s 42 2) 44 d) 45 b) ≡ v
  priced_stored at g e h = arrived _ _ at (rw (priced_figure, e) h)
