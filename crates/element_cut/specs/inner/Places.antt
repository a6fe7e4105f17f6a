-- What the pass over the components answers of a place, and where going through an element has come to.
use Rattle.std.specs.Prelude.{ℕ, ◌≡◌, List, [], ◌∷◌, ◌++◌, cond, length, eqb}
use Rattle.element.specs.Element.{element_of}
use Rattle.element.specs.Cut.{starts_of, first_or}

-- the place after the component that begins at a place, among the starts of an element; 0 where none begins there
unfoldable pub after_in : ℕ → ℕ → List ℕ → ℕ
after_in place end [] = 0
after_in place end (a ∷ starts) = cond (eqb a place) (first_or end starts) (after_in place end starts)

-- a place of an accepted element where a component begins, or its end
pub record Along (s : List ℕ) (place : ℕ) : Type 0 where
  pub fine : (element_of s).number ≡ 0
  pub before : List ℕ
  pub left : List ℕ
  pub all : starts_of (element_of s) ≡ before ++ left
  pub here : first_or (length s) left ≡ place
