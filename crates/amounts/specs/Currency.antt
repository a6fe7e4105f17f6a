-- When two currencies are equal: trailing spaces are ignored. All spaces equals all spaces of another length.
use Rattle.std.specs.Prelude.{ℕ, List, [], ◌∷◌, Bool, cond, take, eqb}
use Rattle.coding.specs.Codec.{same_list}
use Rattle.types.specs.declared.Currency.{Currency}

-- an octet in front of others; a space (20, and no other octet) with nothing after it goes
abbrev pub ahead : ℕ → List ℕ → List ℕ
ahead x [] = cond (eqb x 0x20) [] (x ∷ [])
ahead x (y ∷ ys) = x ∷ y ∷ ys

-- octets without the spaces at their end
unfoldable pub trimmed : List ℕ → List ℕ
trimmed [] = []
trimmed (x ∷ xs) = ahead x (trimmed xs)

-- the octets within the count; a count past the places counts them all
abbrev pub counted : Currency → List ℕ
counted c = take c.count c.octets

unfoldable pub equal_currency : Currency → Currency → Bool
equal_currency c d = same_list eqb (trimmed (counted c)) (trimmed (counted d))
