-- The earliest event of a history that passes a test, by its number. A history has the latest event first; the first event is number 1.
use Rattle.std.specs.Prelude.{ℕ, ◌+◌, List, [], ◌∷◌, Bool, ◌&&◌, cond, length, eqb, leb}

abbrev pub within : ℕ → ℕ → ℕ → Bool
within low n high = leb low n && leb n high

-- the one that was found before, else this one if it passes
abbrev pub or_else : ℕ → Bool → ℕ → ℕ
or_else found passes number = cond (eqb found 0) (cond passes number 0) found

-- 0 if none passes
abbrev pub earliest : {A : Type 0} → (A → Bool) → List A → ℕ
earliest t [] = 0
earliest t (j ∷ h) = or_else (earliest t h) (t j) (length h + 1)
