-- What reading answers, by the profile octet.
use Rattle.prelude.proofs.Prelude.{ℕ, ◌≤◌, arith, ◌≡◌, refl, ◌⊎◌, inl, inr, List, ne_eqb}
use Rattle.types.specs.Frames.{read_of}
use Rattle.types.proofs.Theorems.{refusal}
use Rattle.trunk_types.specs.Components.{read_trunk}
use Rattle.trunk_types.proofs.Theorems as trunk
use Rattle.profile_read.specs.Profile.{of_line, of_trunk, of_none, read_by}

far : (n : ℕ) → (n ≤ 8) ⊎ ((40 ≤ n) × (n ≤ 45)) → n ≡ 17 → ⊥
far n (inl l) e = omega (arith, l, e)
far n (inr h) e = omega (arith, h.0, e)

module _ (s : List ℕ) where
  -- 91 and 9F read their own family, and never 17; any other octet is 17
  pub line_read : read_by 0x91 s ≡ of_line (read_of s)
  unfolding read_by
  line_read = refl

  pub trunk_read : read_by 0x9f s ≡ of_trunk (read_trunk s)
  unfolding read_by
  trunk_read = refl

  pub other_refused : (profile : ℕ) → (profile ≡ 0x91 → ⊥) → (profile ≡ 0x9f → ⊥) → read_by profile s ≡ of_none 17
  unfolding read_by
  other_refused profile a b = rw (ne_eqb _ _ a, ne_eqb _ _ b) refl

  pub read_not_17 : ((read_by 0x91 s).number ≡ 17 → ⊥) × ((read_by 0x9f s).number ≡ 17 → ⊥)
  unfolding read_by
  read_not_17 = (far _ (refusal s), far _ (trunk.refusal s))
