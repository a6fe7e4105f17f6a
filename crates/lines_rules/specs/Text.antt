-- The characters of an answer. 32 is the space, 10 the line's end.
use Rattle.std.specs.Prelude.{cond, ℕ, ◌+◌, ◌/◌, ◌%◌, List, [], ◌∷◌, ◌++◌, get_or, ltb}

-- 0 to 9, A to F
abbrev pub glyphs : List ℕ
glyphs = 48 ∷ 49 ∷ 50 ∷ 51 ∷ 52 ∷ 53 ∷ 54 ∷ 55 ∷ 56 ∷ 57 ∷ 65 ∷ 66 ∷ 67 ∷ 68 ∷ 69 ∷ 70 ∷ []

abbrev pub glyph : ℕ → ℕ
glyph d = get_or glyphs d 0

-- after an octet comes a space, after the last one the line's end
abbrev pub mark : List ℕ → ℕ
mark [] = 10
mark (x ∷ xs) = 32

unfoldable pub hex_text : List ℕ → List ℕ
hex_text [] = []
hex_text (x ∷ xs) = glyph (x / 16) ∷ glyph (x % 16) ∷ mark xs ∷ hex_text xs

-- a number below 100
abbrev pub decimal : ℕ → List ℕ
decimal n = cond (ltb n 10) ((48 + n) ∷ []) ((48 + n / 10) ∷ (48 + n % 10) ∷ [])

-- `refused N`
abbrev pub refused_word : List ℕ
refused_word = 114 ∷ 101 ∷ 102 ∷ 117 ∷ 115 ∷ 101 ∷ 100 ∷ 32 ∷ []

unfoldable pub refused_text : ℕ → List ℕ
refused_text n = refused_word ++ (decimal n ++ 10 ∷ [])

-- `bad line`
abbrev pub bad_text : List ℕ
bad_text = 98 ∷ 97 ∷ 100 ∷ 32 ∷ 108 ∷ 105 ∷ 110 ∷ 101 ∷ 10 ∷ []
