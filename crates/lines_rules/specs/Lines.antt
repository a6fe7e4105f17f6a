-- What the program prints for an input: its lines, the octets of a line, and the answer to it.
use Rattle.std.specs.Prelude.{ℕ, ◌+◌, ◌-◌, ◌*◌, List, [], ◌∷◌, ◌++◌, ◌&&◌, cond, ltb, leb, eqb}
use Rattle.types.specs.Frames.{component, read_of}
use Rattle.lines_rules.specs.Text.{hex_text, refused_text, bad_text}

-- ---- the octets of a line

-- a hex digit's value: 0 to 9, A to F, a to f; 16 for any other character
unfoldable pub digit_of : ℕ → ℕ
digit_of c =
    cond (leb 48 c && leb c 57) (c - 48)
    (cond (leb 65 c && leb c 70) (c - 55)
    (cond (leb 97 c && leb c 102) (c - 87)
    16))

pub data Meant : Type 0 where
  bad : Meant
  octets : List ℕ → Meant

-- two characters, and what the others mean
unfoldable pub octet_then : ℕ → ℕ → Meant → Meant
octet_then a b bad = bad
octet_then a b (octets os) =
    cond (ltb (digit_of a) 16 && ltb (digit_of b) 16) (octets ((digit_of a * 16 + digit_of b) ∷ os)) bad

-- two digits, and again after each space
unfoldable pub pairs : List ℕ → Meant
pairs [] = bad
pairs (a ∷ []) = bad
pairs (a ∷ b ∷ []) = octet_then a b (octets [])
pairs (a ∷ b ∷ c ∷ s) = cond (eqb c 32) (octet_then a b (pairs s)) bad

-- a line with no character has no octets
unfoldable pub line_of : List ℕ → Meant
line_of [] = octets []
line_of (a ∷ s) = pairs (a ∷ s)

-- ---- the answer to a line

-- the shortest form of the component, or the refusal
unfoldable pub text_for : List ℕ → List ℕ
text_for os =
    cond (eqb (read_of os).number 0) (hex_text (component.write (read_of os).value)) (refused_text (read_of os).number)

unfoldable pub answer_to : Meant → List ℕ
answer_to bad = bad_text
answer_to (octets os) = text_for os

-- ---- the lines of an input

-- a character at the start of the first line
unfoldable pub before : ℕ → List (List ℕ) → List (List ℕ)
before c [] = (c ∷ []) ∷ []
before c (l ∷ ls) = (c ∷ l) ∷ ls

-- 10 ends a line; a last line that nothing ends is a line where it has a character
unfoldable pub lines_of : List ℕ → List (List ℕ)
lines_of [] = []
lines_of (c ∷ s) = cond (eqb c 10) ([] ∷ lines_of s) (before c (lines_of s))

unfoldable pub answers_to : List (List ℕ) → List ℕ
answers_to [] = []
answers_to (l ∷ ls) = answer_to (line_of l) ++ answers_to ls

-- all that is printed
unfoldable pub output_of : List ℕ → List ℕ
output_of s = answers_to (lines_of s)
