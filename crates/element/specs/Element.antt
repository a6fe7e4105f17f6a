-- The Facility element: 1C, a one-octet length equal to the octets that follow it, 91 or 9F, then components laid end to end.
use Rattle.std.specs.Prelude.{ℕ, zero, suc, ◌+◌, ◌-◌, List, [], ◌∷◌, Bool, ◌&&◌, ◌||◌, cond, length, get_or, ltb, eqb}
use Rattle.coding.specs.Reader.{Reader, Ans, after, length_at}
use Rattle.coding.specs.Reader.Ans.{got, halt}
use Rattle.coding.specs.Reader.Fault.{limit}
use Rattle.coding.specs.Codec.{pad}
use Rattle.element.specs.declared.Starts.{Starts}

-- The places where components begin that are laid end to end up to the end. A component is a tag, which is one octet of any value,
-- length octets in any form that is read, and contents inside the element. Each has an octet at least, so as many turns as octets are enough:
-- `found` of proofs/Tiles.antt shows that no element is refused for want of turns.
unfoldable pub tiled : ℕ → Reader (List ℕ)
tiled zero s at end = halt limit at
tiled (suc turns) s at end =
    cond (eqb at end) (got [] at)
    (after (length_at at s (at + 1) end) (λ contents next.
    after (tiled turns s next end) (λ starts last. got (at ∷ starts) last)))

-- those of an element, after its third octet
abbrev pub tiles_in : List ℕ → Ans (List ℕ)
tiles_in s = tiled (length s) s 3 (length s)

-- the profile octets: 91 of a public line, 9F of a trunk between private exchanges
unfoldable pub is_profile : ℕ → Bool
is_profile p = eqb p 0x91 || eqb p 0x9f

-- the first three octets are right, and something comes after them
unfoldable pub led : List ℕ → Bool
led s = ltb 3 (length s) && (eqb (get_or s 0 0) 0x1c && (eqb (get_or s 1 0) (length s - 2) && is_profile (get_or s 2 0)))

-- 15 and no starts
abbrev pub malformed : Starts
malformed = record { number = 15; count = 0; starts = pad 127 0 [] }

-- the starts in an array of 127 places, those past the count zero
unfoldable pub starts_found : Ans (List ℕ) → Starts
starts_found (got starts last) = record { number = 0; count = length starts; starts = pad 127 0 starts }
starts_found (halt fault place) = malformed

-- Fewer than three octets, another lead, length or third octet, none after it, or tag and length octets that do not tile to the end: 15.
unfoldable pub element_of : List ℕ → Starts
element_of s = cond (led s) (starts_found (tiles_in s)) malformed
