-- The digits of a party's number, kept in an association.
use Rattle.std.specs.Prelude.{ℕ, List, length}
use Rattle.coding.specs.Reader.{Ruling, mapped}
use Rattle.coding.specs.Codec.{pad}
use Rattle.types.specs.declared.Association.{Association}
use Rattle.types.specs.Charges.{digits_leaf}

-- a number alone is `by_digits 2 0`, a number of the kind p is `by_digits 3 p`
abbrev pub by_digits : ℕ → ℕ → List ℕ → Association
by_digits kind plan xs = record { id = 0; count = length xs; kind = kind; plan = plan; digits = pad 20 0 xs }

unfoldable pub numbered : ℕ → ℕ → List ℕ → Ruling Association
numbered kind plan xs = mapped (by_digits kind plan) (digits_leaf.judge xs)
