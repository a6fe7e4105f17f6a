-- Elements of any tag, in octets: the answer of the reading, and what is kept. One statement over one table.
use Rattle.prelude.proofs.Prelude.{ℕ, ◌≡◌, refl, List, [], ◌∷◌, map, length}
use Rattle.coding.specs.Reader.{after, tagged, neither, choice, extent, numbered_at, endless, marker, turn, searched, find_end, spanned, length_at, opened, closed, constructed, part, mapped, ruled, primitive}
use Rattle.coding.specs.{Contents.every, Codec.length_octets, Codec.prim, inner.Shown.shown, Normal.as_judged, Normal.octet_string, Normal.any_by, Normal.several_by, Normal.any_element, Normal.limited}
use Rattle.coding.specs.{Normal.normal_form}

-- the octets, the fault's number, its place, what is kept, the place after
abbrev pub Case : Type 0
Case = List ℕ × (ℕ × ℕ × List ℕ × ℕ)

unfoldable pub tried : Case → Case
unfolding after tagged neither choice extent numbered_at endless marker turn searched find_end spanned length_at opened closed constructed part mapped ruled primitive every length_octets prim as_judged octet_string any_by several_by any_element limited normal_form shown
tried c = (c.0, shown [] ((normal_form 10 any_element).read c.0 0 (length c.0)))

unfoldable pub cases : List Case
cases =
    -- a constructed element with no number and nothing in it
    (0x30 ∷ 0x80 ∷ 0x00 ∷ 0x00 ∷ [], (0, 0, 0x30 ∷ 0x00 ∷ [], 4))
    -- in one with a number; one with a number in it
    ∷ (0x30 ∷ 0x04 ∷ 0x30 ∷ 0x80 ∷ 0x00 ∷ 0x00 ∷ [], (0, 0, 0x30 ∷ 0x02 ∷ 0x30 ∷ 0x00 ∷ [], 6))
    ∷ (0x30 ∷ 0x80 ∷ 0xa1 ∷ 0x82 ∷ 0x00 ∷ 0x02 ∷ 0x05 ∷ 0x00 ∷ 0x00 ∷ 0x00 ∷ [], (0, 0, 0x30 ∷ 0x04 ∷ 0xa1 ∷ 0x02 ∷ 0x05 ∷ 0x00 ∷ [], 10))
    -- lengths that are not shortest
    ∷ (0x05 ∷ 0x81 ∷ 0x00 ∷ [], (0, 0, 0x05 ∷ 0x00 ∷ [], 3))
    ∷ (0x30 ∷ 0x81 ∷ 0x04 ∷ 0x04 ∷ 0x81 ∷ 0x01 ∷ 0x80 ∷ [], (0, 0, 0x30 ∷ 0x03 ∷ 0x04 ∷ 0x01 ∷ 0x80 ∷ [], 7))
    -- two in one, and the second one's end is not the first's
    ∷ (0x30 ∷ 0x80 ∷ 0x31 ∷ 0x80 ∷ 0x00 ∷ 0x00 ∷ 0x31 ∷ 0x00 ∷ 0x00 ∷ 0x00 ∷ [], (0, 0, 0x30 ∷ 0x04 ∷ 0x31 ∷ 0x00 ∷ 0x31 ∷ 0x00 ∷ [], 10))
    -- its own shortest form; primitive contents are not looked into
    ∷ (0x04 ∷ 0x04 ∷ 0x30 ∷ 0x80 ∷ 0x00 ∷ 0x00 ∷ [], (0, 0, 0x04 ∷ 0x04 ∷ 0x30 ∷ 0x80 ∷ 0x00 ∷ 0x00 ∷ [], 6))
    -- 00 00 is no element, alone or inside; nor is 00 with another length
    ∷ (0x00 ∷ 0x00 ∷ [], (41, 0, [], 0))
    ∷ (0x30 ∷ 0x04 ∷ 0x05 ∷ 0x00 ∷ 0x00 ∷ 0x00 ∷ [], (41, 4, [], 0))
    ∷ (0x30 ∷ 0x03 ∷ 0x00 ∷ 0x81 ∷ 0x00 ∷ [], (41, 2, [], 0))
    -- nothing; 80 on a primitive element, outside and inside; 83
    ∷ ([], (40, 0, [], 0))
    ∷ (0x04 ∷ 0x80 ∷ 0x00 ∷ 0x00 ∷ [], (2, 0, [], 0))
    ∷ (0x30 ∷ 0x04 ∷ 0x04 ∷ 0x80 ∷ 0x00 ∷ 0x00 ∷ [], (2, 2, [], 0))
    ∷ (0x30 ∷ 0x83 ∷ 0x00 ∷ [], (2, 0, [], 0))
    -- contents that are no elements: a length past them, a tag with no length; an end marker that is not there
    ∷ (0x30 ∷ 0x03 ∷ 0x04 ∷ 0x02 ∷ 0x00 ∷ [], (42, 2, [], 0))
    ∷ (0x30 ∷ 0x01 ∷ 0x05 ∷ [], (42, 2, [], 0))
    ∷ (0x30 ∷ 0x80 ∷ 0x05 ∷ 0x00 ∷ [], (42, 0, [], 0))
    -- the limit is one of the shortest form: ten octets
    ∷ (0x04 ∷ 0x81 ∷ 0x08 ∷ 1 ∷ 2 ∷ 3 ∷ 4 ∷ 5 ∷ 6 ∷ 7 ∷ 8 ∷ [], (0, 0, 0x04 ∷ 0x08 ∷ 1 ∷ 2 ∷ 3 ∷ 4 ∷ 5 ∷ 6 ∷ 7 ∷ 8 ∷ [], 11))
    ∷ (0x04 ∷ 0x09 ∷ 1 ∷ 2 ∷ 3 ∷ 4 ∷ 5 ∷ 6 ∷ 7 ∷ 8 ∷ 9 ∷ [], (44, 0, [], 0))
    ∷ []

pub told : map tried cases ≡ cases
unfolding tried cases
told = refl
