-- The Facility element that holds components: 1C, how many octets follow, the profile octet, and the components as they are.
use Rattle.std.specs.Prelude.{ℕ, suc, ◌+◌, List, ◌∷◌, ◌++◌, Bool, true, false, ◌&&◌, cond, length, drop, ltb, leb}
use Rattle.coding.specs.Reader.{Ans}
use Rattle.coding.specs.Reader.Ans.{got, halt}
use Rattle.element.specs.Element.{tiled, is_profile}
use Rattle.write.specs.declared.Written.{Written}
use Rattle.write.specs.Outcome.{done, no}

unfoldable pub round_by : ℕ → List ℕ → List ℕ
round_by profile s = 0x1c ∷ (1 + length s) ∷ profile ∷ s

abbrev pub round : List ℕ → List ℕ
round s = round_by 0x91 s

unfoldable pub is_found : Ans (List ℕ) → Bool
is_found (got starts last) = true
is_found (halt fault place) = false

-- components laid end to end; as many turns as octets, and one for the end, are enough
unfoldable pub is_tiled : List ℕ → Bool
is_tiled s = is_found (tiled (suc (length s)) s 0 (length s))

-- an element can hold them: one at least, and no more octets than its length octet can count
unfoldable pub element_holds : List ℕ → Bool
element_holds s = ltb 0 (length s) && (leb (length s) 254 && is_tiled s)

-- The answer, and what is left in the caller's buffer: the element and then what was there; or 15, or 12, and all that was there.
unfoldable pub element_as : ℕ → List ℕ → List ℕ → Written × List ℕ
element_as profile s before =
    let whole = round_by profile s in
    cond (element_holds s)
    (cond (leb (length whole) (length before)) (done (length whole), whole ++ drop (length whole) before) (no 12, before))
    (no 15, before)

-- an element of a public line
unfoldable pub element_into : List ℕ → List ℕ → Written × List ℕ
element_into s before = element_as 0x91 s before

-- an element by its profile octet: 17, before all else, for another than 91 and 9F
unfoldable pub element_by : ℕ → List ℕ → List ℕ → Written × List ℕ
element_by profile s before = cond (is_profile profile) (element_as profile s before) (no 17, before)
