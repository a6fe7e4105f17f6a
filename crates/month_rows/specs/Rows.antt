-- The rows of currencies (document 02, request 9): which row is a currency's, and the rows with one call more. Whatever the rows hold.
use Rattle.std.specs.Prelude.{ℕ, zero, suc, ◌+◌, ◌%◌, ◌^◌, cond, List, [], ◌∷◌}
use Rattle.types.specs.declared.Currency.{Currency}
use Rattle.types.specs.Charges.{no_currency}
use Rattle.amounts.specs.Currency.{equal_currency}
use Rattle.month_rows.specs.declared.Row.{Row}

-- a sum in w bits; it wraps where it has no room
abbrev pub plus : ℕ → ℕ → ℕ → ℕ
plus w a b = (a + b) % (2 ^ w)

abbrev pub zero_row : Row
zero_row = record { currency = no_currency; unused = 0; calls = 0; sum = 0 }

-- the first call of a currency, which stays as it was received then
abbrev pub new_row : Currency → ℕ → Row
new_row c t = record { currency = c; unused = 0; calls = 1; sum = t }

abbrev pub one_more : Row → ℕ → Row
one_more r t = record { currency = r.currency; unused = r.unused; calls = plus 32 r.calls 1; sum = plus 64 r.sum t }

-- the first of n rows with an equal currency; n where none has
unfoldable pub row_of : Currency → ℕ → List Row → ℕ
row_of c n [] = n
row_of c zero (x ∷ l) = 0
row_of c (suc n) (x ∷ l) = cond (equal_currency x.currency c) 0 (suc (row_of c n l))

-- a call of t thousandths goes to that row, or to a new one after the n
unfoldable pub raise : Currency → ℕ → ℕ → List Row → List Row
raise c t n [] = []
raise c t zero (x ∷ l) = new_row c t ∷ l
raise c t (suc n) (x ∷ l) = cond (equal_currency x.currency c) (one_more x t ∷ l) (x ∷ raise c t n l)
