-- The reject due to a component that is refused.
use Rattle.std.specs.Prelude.{ℕ, List, [], ◌∷◌, Bool, ◌||◌, cond, length, get_or, ltb, leb, eqb}
use Rattle.std.proofs.Common.{inl, inr}
use Rattle.coding.specs.Reader.{Ans, after, entered_any}
use Rattle.coding.specs.Reader.Ans.{got, halt}
use Rattle.coding.specs.Reader.Fault.{named}
use Rattle.coding.specs.Codec.{prim, one_of}
use Rattle.coding.specs.Leaves.{identifier}
use Rattle.types.specs.declared.Record.{Record}
use Rattle.types.specs.Frames.{outside, rejects, read_of}

-- the first octet, or 0 where there is none
abbrev pub first_of : List ℕ → ℕ
first_of s = get_or s 0 0

-- the component's identifier, which is first in its contents
abbrev pub identifier_read : List ℕ → Ans ℕ
identifier_read s =
    after (entered_any (0xa1 ∷ 0xa2 ∷ 0xa3 ∷ 0xa4 ∷ []) outside (named 5) s 0 (length s)) (λ x next. (prim 0x02 identifier).read s x.start x.stop)

-- 0 where none can be read, which no reply sends (`named_reply`)
abbrev pub value_or0 : Ans ℕ → ℕ
value_or0 (got i n) = i
value_or0 (halt w p) = 0

-- Over 254 octets are not opened: their reply, to refusal 3, names no component.
unfoldable pub identifier_of : List ℕ → ℕ
identifier_of s = cond (ltb 254 (length s)) 0 (value_or0 (identifier_read s))

-- none for an accepted component or where the first octet is A4
abbrev pub is_silent_to : ℕ → List ℕ → Bool
is_silent_to n s = eqb n 0 || eqb (first_of s) 0xa4

-- the refusals whose reply names the component
abbrev pub is_named : ℕ → Bool
is_named n = one_of (7 ∷ 8 ∷ 40 ∷ 41 ∷ 42 ∷ 43 ∷ 44 ∷ 45 ∷ []) n

-- with NULL: refusals 1, 2, 3, 5 general 2; 4 general 0; 6 general 1
-- with the identifier: 7 invoke 1 (in a result: result 2); 8 error 2; 40 to 45 invoke 2 (in a result: result 2)
abbrev pub reply_by : ℕ → ℕ → ℕ → Record
reply_by n first i =
    cond (eqb n 4) (rejects (inl tt) 0x80 0)
    (cond (eqb n 6) (rejects (inl tt) 0x80 1)
    (cond (eqb n 8) (rejects (inr i) 0x83 2)
    (cond (eqb n 7) (cond (eqb first 0xa2) (rejects (inr i) 0x82 2) (rejects (inr i) 0x81 1))
    (cond (leb 40 n) (cond (eqb first 0xa2) (rejects (inr i) 0x82 2) (rejects (inr i) 0x81 2))
    (rejects (inl tt) 0x80 2)))))

abbrev pub reject_to : ℕ → List ℕ → Record
reject_to n s = reply_by n (first_of s) (identifier_of s)

-- ---- of a public line

unfoldable pub is_silent : List ℕ → Bool
is_silent s = is_silent_to (read_of s).number s

unfoldable pub reply_to : List ℕ → Record
reply_to s = reject_to (read_of s).number s
