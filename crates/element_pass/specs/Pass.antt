-- One pass over a Facility element: from the element and a place, the next component with the place after it, or the end.
use Rattle.std.specs.Prelude.{ℕ, ◌≡◌, List, [], ◌∷◌, cond, length, get_or, eqb}
use Rattle.coding.specs.Reader.{part}
use Rattle.types.specs.declared.Answer.{Answer}
use Rattle.types.specs.Frames.{refused, read_of}
use Rattle.element.specs.Element.{element_of}
use Rattle.element.specs.Cut.{starts_of, first_or}
use Rattle.read.specs.Whole.{whole_answer}
use Rattle.element_pass.specs.declared.Next.{Next}
use Rattle.element_pass.specs.declared.Found.{Found}

-- ---- where the component lies that begins at a place

-- no component: the end, or a refusal
abbrev pub none_at : ℕ → ℕ → Found
none_at ended number = record { after = 0; ended = ended; number = number }

-- a component that ends before a place
abbrev pub found_up_to : ℕ → Found
found_up_to after = record { after = after; ended = 0; number = 0 }

-- a component begins at one of the starts and ends at the next, the last one at the element's end; any other place is 16
unfoldable pub among_starts : ℕ → ℕ → List ℕ → Found
among_starts place end [] = none_at 0 16
among_starts place end (a ∷ starts) = cond (eqb a place) (found_up_to (first_or end starts)) (among_starts place end starts)

-- The whole tiling is checked first: 15. The place after the last octet is the end.
unfoldable pub found_at : List ℕ → ℕ → Found
found_at s place =
    cond (eqb (element_of s).number 0)
    (cond (eqb place (length s)) (none_at 1 0) (among_starts place (length s) (starts_of (element_of s))))
    (none_at 0 15)

-- ---- what is given of it, by any reader

-- A reader of components: what it answers to a component with its element's third octet, and with a number where there is none.
pub record Reads (A : Type 0) : Type 0 where
  pub by : ℕ → List ℕ → A
  pub none : ℕ → A

-- What a place of an element gives: a component's answer and the place after it; at the end the mark, and nothing else; else a refusal.
pub record Passed (A : Type 0) : Type 0 where
  pub ended : ℕ
  pub after : ℕ
  pub answer : A

abbrev pub at_end : {A : Type 0} → Reads A → Passed A
at_end r = record { ended = 1; after = 0; answer = r.none 0 }

abbrev pub no_component : {A : Type 0} → Reads A → ℕ → Passed A
no_component r number = record { ended = 0; after = 0; answer = r.none number }

-- the component from a place up to another, read by itself
abbrev pub component_up_to : {A : Type 0} → Reads A → List ℕ → ℕ → ℕ → Passed A
component_up_to r s place after = record { ended = 0; after = after; answer = r.by (get_or s 2 0) (part s place after) }

unfoldable pub pass_with : {A : Type 0} → Reads A → List ℕ → ℕ → Passed A
pass_with r s place =
    let f = found_at s place in record {
      ended = f.ended;
      after = f.after;
      answer = cond (eqb f.after 0) (r.none f.number) (r.by (get_or s 2 0) (part s place f.after));
    }

-- Going through an element from a place on: the answers of the components in order, then the end.
pub data Through {A : Type 0} (r : Reads A) (s : List ℕ) : ℕ → List A → Type 0 where
  over : {place : ℕ} → pass_with r s place ≡ at_end r → Through r s place []
  next : {place after : ℕ} {answer : A} {answers : List A}
      → pass_with r s place ≡ record { ended = 0; after = after; answer = answer } → Through r s after answers → Through r s place (answer ∷ answers)

-- ---- public lines: 91 is read, a component of an element with any other octet is 17

abbrev pub lines : Reads Answer
lines = record { by = λ profile s. cond (eqb profile 0x91) (read_of s) (refused 17); none = refused }

abbrev pub pass_of : List ℕ → ℕ → Passed Answer
pass_of = pass_with lines

-- what is answered by value, and the record in four parts
abbrev pub whole_next : Next → List ℕ → List ℕ → List ℕ → List ℕ → Passed Answer
whole_next r front figure numbers rows = record { ended = r.ended; after = r.after; answer = whole_answer r.answer front figure numbers rows }
