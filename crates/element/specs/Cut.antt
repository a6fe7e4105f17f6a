-- What the starts of an element stand for: the components that it is cut into.
use Rattle.std.specs.Prelude.{ℕ, ◌+◌, List, [], ◌∷◌, ◌++◌, length, take}
use Rattle.coding.specs.Reader.{part}
use Rattle.coding.specs.Codec.{Element}
use Rattle.element.specs.declared.Starts.{Starts}

-- the starts that an answer counts
abbrev pub starts_of : Starts → List ℕ
starts_of r = take r.count r.starts

abbrev pub first_or : ℕ → List ℕ → ℕ
first_or end [] = end
first_or end (a ∷ starts) = a

-- the parts from each start to the next, and from the last to the end
abbrev pub parts_of : List ℕ → List ℕ → List (List ℕ)
parts_of s [] = []
parts_of s (a ∷ starts) = part s a (first_or (length s) starts) ∷ parts_of s starts

abbrev pub joined : List (List ℕ) → List ℕ
joined [] = []
joined (p ∷ ps) = p ++ joined ps

-- one element, to its end: a tag, length octets with a number, and after them as many octets as they say; or a constructed tag, 80, elements laid end to end, and
-- 00 00
abbrev pub Tile : List ℕ → Type 0
Tile p = (c m : ℕ) × Element p 0 c m (length p)

abbrev pub Tiles : List (List ℕ) → Type 0
Tiles [] = Unit {0}
Tiles (p ∷ ps) = Tile p × Tiles ps

-- where parts begin that are laid end to end from a place on
abbrev pub places_of : ℕ → List (List ℕ) → List ℕ
places_of a [] = []
places_of a (p ∷ ps) = a ∷ places_of (a + length p) ps
