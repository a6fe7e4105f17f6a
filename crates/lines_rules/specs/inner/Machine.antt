-- How the program goes through an input, character by character. proofs/Meaning.antt shows that this prints what Lines.antt says.
use Rattle.std.specs.Prelude.{ℕ, ◌+◌, ◌*◌, ◌%◌, ◌≤◌, ◌≡◌, List, [], ◌∷◌, ◌++◌, ◌||◌, cond, length, take, set, ltb, leb, eqb}
use Rattle.coding.specs.Reader.{part}
use Rattle.lines_rules.specs.declared.Line.{Line}
use Rattle.lines_rules.specs.declared.Went.{Went}
use Rattle.lines_rules.specs.Text.{refused_text, bad_text}
use Rattle.lines_rules.specs.Lines.{digit_of, text_for}

-- ---- a line, as far as it has come

abbrev pub made_line : ℕ → ℕ → ℕ → Line
made_line n p h = record { count = n; phase = p; high = h }

abbrev pub new_line : Line
new_line = made_line 0 0 0

abbrev pub bad_line : Line
bad_line = made_line 0 4 0

-- after one more character
unfoldable pub step_line : Line → ℕ → Line
step_line l c =
    cond (eqb l.phase 4) l
    (cond (eqb l.phase 3) (cond (eqb c 32) (made_line l.count 1 0) bad_line)
    (cond (leb 16 (digit_of c)) bad_line
    (cond (eqb l.phase 2)
    (cond (ltb l.count 254) (made_line (l.count + 1) 3 0) (made_line 255 3 0))
    (made_line l.count 2 (digit_of c)))))

abbrev pub octet_of : ℕ → ℕ → ℕ
octet_of h d = h % 16 * 16 + d % 16

-- its first 254 octets, after one more character: a second digit makes one
unfoldable pub step_octets : Line → ℕ → List ℕ → List ℕ
step_octets l c o =
    cond (eqb l.phase 2)
    (cond (leb 16 (digit_of c)) o
    (cond (ltb l.count 254) (set o l.count (octet_of l.high (digit_of c))) o))
    o

-- a line that awaits a first digit, after k octets with their spaces
abbrev pub spaced_line : Line → ℕ → Line
spaced_line l k = cond (eqb k 0) l (made_line (l.count + k) 1 0)

-- the answer to it, where it ends
unfoldable pub answer_text : Line → List ℕ → List ℕ
answer_text l o =
    cond (eqb l.phase 0 || eqb l.phase 3)
    (cond (ltb (length o) l.count) (refused_text 3) (text_for (take l.count o)))
    bad_text

-- ---- the input, as far as it has come

pub record State : Type 0 where
  pub line : Line
  pub held : List ℕ
  pub text : List ℕ

abbrev pub state : Line → List ℕ → List ℕ → State
state l o t = record { line = l; held = o; text = t }

unfoldable pub turn : State → ℕ → State
turn q c =
    cond (eqb c 10)
    (state new_line q.held (q.text ++ answer_text q.line q.held))
    (state (step_line q.line c) (step_octets q.line c q.held) q.text)

unfoldable pub turns : State → List ℕ → State
turns q [] = q
turns q (c ∷ s) = turns (turn q c) s

-- the input ends: a line that nothing ended is answered where it has a character
unfoldable pub ended : State → List ℕ
ended q = cond (eqb q.line.phase 0) q.text (turn q 10).text

-- ---- what the functions on a part of the input promise

-- where a line was left off: just past its end, or before
abbrev pub left_off : Went → List ℕ → List ℕ → State
left_off w o t = cond w.ended (state new_line o (t ++ answer_text w.line o)) (state w.line o t)

-- the characters of s from a place on were heard as far as w says
pub record Heard (s : List ℕ) (from : ℕ) (l : Line) (o : List ℕ) (w : Went) (p : List ℕ) : Type 0 where
  pub onward : from ≤ w.at
  pub inside : w.at ≤ length s
  pub heard : (t : List ℕ) → turns (state l o t) (part s from w.at) ≡ left_off w p t
