-- Elements that the definition accepts and refuses.
use Rattle.prelude.proofs.Prelude.{ℕ, ◌≡◌, refl, List, [], ◌∷◌, map, length}
use Rattle.coding.specs.{Reader.{after, numbered_at, endless, marker, turn, searched, find_end, spanned, length_at, extent}, Codec.pad}
use Rattle.element.specs.{declared.Starts.Starts, Element.tiled, Element.is_profile, Element.led, Element.malformed, Element.starts_found, Element.element_of}

pub record Case : Type 0 where
  pub octets : List ℕ
  pub answer : Starts

-- its starts, or 15
abbrev accepted : List ℕ → List ℕ → Case
accepted octets starts = record { octets = octets; answer = record { number = 0; count = length starts; starts = pad 127 0 starts } }

abbrev refused : List ℕ → Case
refused octets = record { octets = octets; answer = malformed }

abbrev pub cases : List Case
cases =
    -- one component; three, of which the second has its length in two octets and the third in three, with tags of any value
    accepted (0x1c ∷ 0x05 ∷ 0x91 ∷ 0xa1 ∷ 0x02 ∷ 0x05 ∷ 0x00 ∷ []) (3 ∷ [])
    ∷ accepted (0x1c ∷ 0x0c ∷ 0x91 ∷ 0xa1 ∷ 0x00 ∷ 0xff ∷ 0x81 ∷ 0x01 ∷ 0xff ∷ 0x00 ∷ 0x82 ∷ 0x00 ∷ 0x01 ∷ 0x30 ∷ []) (3 ∷ 5 ∷ 9 ∷ [])
    -- fewer than three octets
    ∷ refused []
    ∷ refused (0x1c ∷ 0x00 ∷ [])
    -- another lead, length or third octet
    ∷ refused (0x1d ∷ 0x03 ∷ 0x91 ∷ 0xa1 ∷ 0x00 ∷ [])
    ∷ refused (0x1c ∷ 0x04 ∷ 0x91 ∷ 0xa1 ∷ 0x00 ∷ [])
    ∷ refused (0x1c ∷ 0x03 ∷ 0x92 ∷ 0xa1 ∷ 0x00 ∷ [])
    -- two without a number, the second holding another, then one with a number
    ∷ accepted (0x1c ∷ 0x11 ∷ 0x91 ∷ 0xa1 ∷ 0x80 ∷ 0x00 ∷ 0x00 ∷ 0xa1 ∷ 0x80 ∷ 0x30 ∷ 0x80 ∷ 0x00 ∷ 0x00 ∷ 0x00 ∷ 0x00 ∷ 0x81 ∷ 0x02 ∷ 0x00 ∷ 0x00 ∷ []) (3 ∷ 7 ∷ 15 ∷ [])
    -- none after it
    ∷ refused (0x1c ∷ 0x01 ∷ 0x91 ∷ [])
    -- a tag alone; contents past the end; a length of 80 on a primitive tag, and without an end marker; one of 83
    ∷ refused (0x1c ∷ 0x02 ∷ 0x91 ∷ 0xa1 ∷ [])
    ∷ refused (0x1c ∷ 0x05 ∷ 0x91 ∷ 0xa1 ∷ 0x00 ∷ 0xa1 ∷ 0x01 ∷ [])
    ∷ refused (0x1c ∷ 0x05 ∷ 0x91 ∷ 0x81 ∷ 0x80 ∷ 0x00 ∷ 0x00 ∷ [])
    ∷ refused (0x1c ∷ 0x05 ∷ 0x91 ∷ 0xa1 ∷ 0x80 ∷ 0x00 ∷ 0x01 ∷ [])
    ∷ refused (0x1c ∷ 0x06 ∷ 0x91 ∷ 0xa1 ∷ 0x83 ∷ 0x00 ∷ 0x00 ∷ 0x00 ∷ [])
    -- those of the readings of request 1: a component of a trunk; extension, interpretation and component
    ∷ accepted (0x1c ∷ 0x0d ∷ 0x9f ∷ 0xa1 ∷ 0x0a ∷ 0x02 ∷ 0x01 ∷ 0x01 ∷ 0x02 ∷ 0x01 ∷ 0x3d ∷ 0x30 ∷ 0x02 ∷ 0x81 ∷ 0x00 ∷ []) (3 ∷ [])
    ∷ accepted (0x1c ∷ 0x18 ∷ 0x9f ∷ 0xaa ∷ 0x06 ∷ 0x80 ∷ 0x01 ∷ 0x00 ∷ 0x82 ∷ 0x01 ∷ 0x00 ∷ 0x8b ∷ 0x01 ∷ 0x00 ∷ 0xa1 ∷ 0x0a ∷ 0x02 ∷ 0x01 ∷ 0x01 ∷ 0x02 ∷ 0x01 ∷ 0x3d ∷ 0x30 ∷ 0x02 ∷ 0x81 ∷ 0x00 ∷ []) (3 ∷ 11 ∷ 14 ∷ [])
    -- none after the profile octet; other profile octets
    ∷ refused (0x1c ∷ 0x01 ∷ 0x9f ∷ [])
    ∷ refused (0x1c ∷ 0x03 ∷ 0x9e ∷ 0xaa ∷ 0x00 ∷ [])
    ∷ refused (0x1c ∷ 0x03 ∷ 0x1f ∷ 0xa1 ∷ 0x00 ∷ [])
    -- the extension under 91, alone, with anything in it, behind another component: the tiling does not mind
    ∷ accepted (0x1c ∷ 0x03 ∷ 0x91 ∷ 0xaa ∷ 0x00 ∷ []) (3 ∷ [])
    ∷ accepted (0x1c ∷ 0x09 ∷ 0x9f ∷ 0xaa ∷ 0x06 ∷ 0x80 ∷ 0x01 ∷ 0x00 ∷ 0x82 ∷ 0x01 ∷ 0x00 ∷ []) (3 ∷ [])
    ∷ accepted (0x1c ∷ 0x04 ∷ 0x9f ∷ 0xaa ∷ 0x01 ∷ 0xff ∷ []) (3 ∷ [])
    -- 80 without an end marker; a tile beyond the end; an extension behind a reject; another length
    ∷ refused (0x1c ∷ 0x03 ∷ 0x9f ∷ 0xaa ∷ 0x80 ∷ [])
    ∷ refused (0x1c ∷ 0x04 ∷ 0x9f ∷ 0xaa ∷ 0x02 ∷ 0x00 ∷ [])
    ∷ accepted (0x1c ∷ 0x05 ∷ 0x9f ∷ 0xa4 ∷ 0x00 ∷ 0xaa ∷ 0x00 ∷ []) (3 ∷ 5 ∷ [])
    ∷ refused (0x1c ∷ 0x04 ∷ 0x9f ∷ 0xaa ∷ 0x00 ∷ [])
    ∷ []

pub cases_right : map (λ (c : Case). element_of c.octets) cases ≡ map (λ (c : Case). c.answer) cases
unfolding element_of led is_profile tiled starts_found numbered_at endless marker turn searched find_end spanned length_at extent after pad
cases_right = refl
