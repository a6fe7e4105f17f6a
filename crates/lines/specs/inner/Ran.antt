-- What the program promises of a part of the input.
use Rattle.std.specs.Prelude.{ℕ, ◌≤◌, ◌<◌, ◌≡◌, List, [], ◌++◌, length, Option, ◌⊎◌, codes}
use Rattle.std.specs.Io.KnownBytes.{Appends, Consumes, IsAtEnd}
use Rattle.coding.specs.{Reader.part, inner.Written.Wrote}
use Rattle.lines_rules.specs.{declared.Line.Line, inner.Machine.state, inner.Machine.turns, inner.Machine.ended}
use Rattle.lines.specs.declared.Done.{Done}

-- the characters of s from a place on were taken as far as d says, and the answers to the lines that ended are at the start of a buffer
pub record Ran (s : List ℕ) (from : ℕ) (l : Line) (o : List ℕ) (d : Done) (p : List ℕ) (buffer after : List ℕ) : Type 0 where
  pub onward : from < d.at
  pub inside : d.at ≤ length s
  pub room : d.used ≤ 65536
  pub text : List ℕ
  pub put : Wrote buffer after 0 text d.used
  pub ran : (t : List ℕ) → turns (state l o t) (part s from d.at) ≡ state d.line p (t ++ text)

-- all of s was taken
abbrev pub Carried : List ℕ → Line → List ℕ → Line → List ℕ → Type 0
Carried s l o m p = (text : List ℕ) × (turns (state l o []) s ≡ state m p text)

-- a writer took the start of a text, after what it held
pub record Begun (held holds : Option (List ℕ)) (text : List ℕ) : Type 0 where
  pub said : List ℕ
  pub unsaid : List ℕ
  pub parts : text ≡ said ++ unsaid
  pub put : Appends held holds said

-- what is said where a write or a read fails
abbrev pub no_output : List ℕ
no_output = codes "lines: the output cannot be written\n"

abbrev pub no_input : List ℕ
no_input = codes "lines: the input cannot be read\n"

abbrev pub Says : Option (List ℕ) → Option (List ℕ) → Type 0
Says held holds = Begun held holds no_output ⊎ Begun held holds no_input

-- all of s was taken, and the answers to the lines that ended in it went to a writer, after what it held
pub record Told (s : List ℕ) (l : Line) (o : List ℕ) (m : Line) (p : List ℕ) (held holds : Option (List ℕ)) : Type 0 where
  pub text : List ℕ
  pub ran : (t : List ℕ) → turns (state l o t) s ≡ state m p (t ++ text)
  pub put : Appends held holds text

-- some of what a reader had was taken, and the answers to the lines that ended in it went to a writer
pub record Passed (had has held holds : Option (List ℕ)) (l : Line) (o : List ℕ) (m : Line) (p : List ℕ) : Type 0 where
  pub taken : List ℕ
  pub read : Consumes had has taken
  pub told : Told taken l o m p held holds

-- a reader had no more, and the answer to a line that nothing ended went to a writer
pub record Closed (had has held holds : Option (List ℕ)) (l : Line) (o : List ℕ) : Type 0 where
  pub read : Consumes had has []
  pub done : IsAtEnd has
  pub put : Appends held holds (ended (state l o []))
