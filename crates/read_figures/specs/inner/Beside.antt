-- A figure's octets but for its association, which lies from 16 up to 42.
use Rattle.std.specs.Prelude.{ℕ, ◌≡◌, List, take, drop, replicate}
use Rattle.coding.specs.Reader.{part}

-- no association is stored yet
abbrev pub Unassociated : List ℕ → Type 0
Unassociated s = part s 16 42 ≡ replicate 26 0

-- all beside it is as it was
abbrev pub SameBeside : List ℕ → List ℕ → Type 0
SameBeside before after = (take 16 after ≡ take 16 before) × (drop 42 after ≡ drop 42 before)
