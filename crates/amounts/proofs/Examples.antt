-- Pairs of finals that differ in spaces and in little else: one statement over one table.
use Rattle.prelude.proofs.Prelude.{ℕ, ◌≡◌, refl, true, false, List, [], ◌∷◌, map}
use Rattle.coding.specs.Codec.{pad}
use Rattle.types.specs.{declared.Money.Money, Charges.kept}
use Rattle.amounts.specs.{Currency.trimmed, Currency.equal_currency, Amounts.equal_money}

abbrev pub in_text : List ℕ → ℕ → ℕ → Money
in_text xs number multiplier = record { currency = kept xs; multiplier = multiplier; number = number }

abbrev pub half : List ℕ → Money
half xs = in_text xs 50 1

abbrev pub euro : List ℕ → List ℕ
euro more = 0x45 ∷ 0x55 ∷ 0x52 ∷ more

abbrev pub ten_spaces : List ℕ
ten_spaces = 0x20 ∷ 0x20 ∷ 0x20 ∷ 0x20 ∷ 0x20 ∷ 0x20 ∷ 0x20 ∷ 0x20 ∷ 0x20 ∷ 0x20 ∷ []

-- EUR and EUR with spaces, either way round and both; spaces alone; 00 is data; then what differs in the amount, in a leading or inner space, in case,
-- in 00 and in 09
unfoldable pub pairs : List (Money × Money)
pairs =
    (half (euro []), half (euro (0x20 ∷ [])))
    ∷ (half (euro (0x20 ∷ 0x20 ∷ [])), half (euro []))
    ∷ (half (euro (0x20 ∷ [])), in_text (euro (0x20 ∷ 0x20 ∷ 0x20 ∷ 0x20 ∷ 0x20 ∷ 0x20 ∷ 0x20 ∷ [])) 500 0)
    ∷ (half (0x20 ∷ []), half (0x20 ∷ 0x20 ∷ 0x20 ∷ []))
    ∷ (in_text ten_spaces 0 0, in_text (0x20 ∷ []) 0 6)
    ∷ (half (euro (0x00 ∷ [])), half (euro (0x00 ∷ 0x20 ∷ [])))
    ∷ (half (euro []), in_text (euro (0x20 ∷ [])) 501 0)
    ∷ (half (euro []), half (0x20 ∷ euro []))
    ∷ (half (0x45 ∷ 0x20 ∷ 0x52 ∷ []), half (0x45 ∷ 0x52 ∷ []))
    ∷ (half (euro []), half (0x65 ∷ 0x75 ∷ 0x72 ∷ []))
    ∷ (half (euro []), half (euro (0x00 ∷ [])))
    ∷ (half (euro []), half (euro (0x20 ∷ 0x00 ∷ [])))
    ∷ (half (0x20 ∷ []), half (0x00 ∷ []))
    ∷ (half (euro []), half (euro (0x09 ∷ [])))
    ∷ []

pub cases_right : map (λ (p : Money × Money). equal_money p.0 p.1) pairs
    ≡ true ∷ true ∷ true ∷ true ∷ true ∷ true ∷ false ∷ false ∷ false ∷ false ∷ false ∷ false ∷ false ∷ false ∷ []
unfolding pairs equal_money equal_currency trimmed pad
cases_right = refl
