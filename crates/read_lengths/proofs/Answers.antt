-- What the returns of readers cite, beside the laws of readers: an answer by a test.
use Rattle.prelude.proofs.Prelude.{ℕ, ◌≡◌, ap, sym, ◌∙◌, Bool, true, false, not, cond, not-true, not-false}
use Rattle.coding.{specs.Reader.Ans, specs.inner.Shown.shown, proofs.Reading.gives, proofs.Reading.when_yes}
use Rattle.coding.{proofs.Reading.when_no}

-- by a test that the code made too
module _ {A : Type 0} (b : Bool) (x x' : Ans A) (y : A) {r : Bool} {t : ℕ × ℕ × A × ℕ} (e : r ≡ b) where
  pub picked : r ≡ true → t ≡ shown y x → t ≡ shown y (cond b x x')
  picked h k = when_yes b x x' y (sym e ∙ h) k

  pub passed : r ≡ false → t ≡ shown y x' → t ≡ shown y (cond b x x')
  passed h k = when_no b x x' y (sym e ∙ h) k

  pub picked_not : not r ≡ false → t ≡ shown y x → t ≡ shown y (cond b x x')
  picked_not h k = picked (not-false r h) k

  pub passed_not : not r ≡ true → t ≡ shown y x' → t ≡ shown y (cond b x x')
  passed_not h k = passed (not-true r h) k

pub ruleset when = (picked, passed, picked_not, passed_not, gives)
