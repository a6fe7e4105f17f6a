-- The octets of an element.
use Rattle.std.specs.Prelude.{ℕ, List, ◌++◌, length}
use Rattle.coding.specs.inner.Written.{lead}

-- an element that holds these octets
abbrev pub element : ℕ → List ℕ → List ℕ
element tag xs = lead tag (length xs) ++ xs
