-- What a primitive element's contents may be.
use Rattle.std.specs.Prelude.{ℕ, ◌+◌, ◌*◌, ◌^◌, List, [], ◌∷◌, Bool, true, false, cond, length, ltb, leb, eqb, ℤ, pos}
use Rattle.std.proofs.Math.IntN.{sub_ℕ}
use Rattle.coding.specs.Reader.{Fault, Ruling}

-- the number that octets say, high first
unfoldable pub number_from : ℕ → List ℕ → ℕ
number_from n [] = n
number_from n (x ∷ xs) = number_from (n * 256 + x) xs

-- two's complement: the first bit is the sign
unfoldable pub negative : List ℕ → Bool
negative [] = false
negative (x ∷ xs) = leb 0x80 x

-- the number that contents say, of any length: where the first bit is set, less 256 ^ length
unfoldable pub value_of : List ℕ → ℤ
value_of xs = cond (negative xs) (sub_ℕ (number_from 0 xs) (256 ^ length xs)) (pos (number_from 0 xs))

-- one octet, or more whose first nine bits are not all equal
unfoldable pub shortest : List ℕ → Bool
shortest [] = false
shortest (x ∷ []) = true
shortest (x ∷ y ∷ xs) =
    cond (eqb x 0) (leb 0x80 y) (cond (eqb x 0xff) (ltb y 0x80) true)

-- INTEGER or ENUMERATED from `low` to `high`, none below 0
unfoldable pub natural : ℕ → ℕ → List ℕ → Ruling ℕ
natural low high xs =
    cond (shortest xs)
    (cond (negative xs) (Ruling.bad Fault.contents)
    (cond (leb low (number_from 0 xs))
    (cond (leb (number_from 0 xs) high) (Ruling.good (number_from 0 xs)) (Ruling.bad Fault.contents))
    (Ruling.bad Fault.contents)))
    (Ruling.bad Fault.shortest)

-- every octet passes
unfoldable pub every : (ℕ → Bool) → List ℕ → Bool
every ok [] = true
every ok (x ∷ xs) = cond (ok x) (every ok xs) false

-- a string of `low` to `high` octets that all pass
unfoldable pub text : ℕ → ℕ → (ℕ → Bool) → List ℕ → Ruling (List ℕ)
text low high ok xs =
    cond (ltb (length xs) low) (Ruling.bad (cond (eqb (length xs) 0) Fault.shortest Fault.contents))
    (cond (ltb high (length xs)) (Ruling.bad Fault.contents)
    (cond (every ok xs) (Ruling.good xs) (Ruling.bad Fault.contents)))

-- NULL
unfoldable pub null : List ℕ → Ruling (Unit {0})
null [] = Ruling.good tt
null (x ∷ xs) = Ruling.bad Fault.contents
