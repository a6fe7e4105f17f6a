-- What writing leaves in the caller's buffer.
use Rattle.std.specs.Prelude.{ℕ, ◌+◌, ◌≤◌, ◌≡◌, List, ◌∷◌, ◌++◌, length}
use Rattle.std.proofs.lemmas.List.Edits.{sets}
use Rattle.coding.specs.Codec.{length_octets}
use Rattle.coding.specs.Leaves.{width, digits}

-- from before to after, the octets xs were stored from place at on and nothing else changed; next is the place after them
pub record Wrote (before after : List ℕ) (at : ℕ) (xs : List ℕ) (next : ℕ) : Type 0 where
  pub place : next ≡ at + length xs
  pub kept : length after ≡ length before
  pub stored : after ≡ sets before at xs

-- the octets xs fit from place at on
pub record Room (buf : List ℕ) (at : ℕ) (xs : List ℕ) : Type 0 where
  pub fits : at + length xs ≤ length buf

-- tag and shortest length octets of n
unfoldable pub lead : ℕ → ℕ → List ℕ
lead tag n = tag ∷ length_octets n

-- an element that holds a number
unfoldable pub full_number : ℕ → ℕ → List ℕ
full_number tag n = lead tag (width n) ++ digits (width n) n
