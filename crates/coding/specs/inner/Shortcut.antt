-- The forms that the code looks for first: an element with a length of one octet, and one with contents of one octet.
use Rattle.std.specs.Prelude.{ℕ, ◌+◌, ◌≤◌, ◌<◌, ◌≡◌, List, ◌&&◌, cond, get_or, ltb, leb, eqb}

-- tag 01 x, inside the enclosing element
pub record Tiny (s : List ℕ) (at end tag x : ℕ) : Type 0 where
  pub inside : at + 3 ≤ end
  pub named : get_or s at 0 ≡ tag
  pub single : get_or s (at + 1) 0 ≡ 1
  pub octet : get_or s (at + 2) 0 ≡ x

-- tag, n below 80, and n octets, inside the enclosing element
pub record Short (s : List ℕ) (at end tag n : ℕ) : Type 0 where
  pub inside : at + 2 + n ≤ end
  pub named : get_or s at 0 ≡ tag
  pub small : n < 128
  pub octet : get_or s (at + 1) 0 ≡ n

-- the octet x of tag 01 x, or else 256
unfoldable pub tiny_at : List ℕ → ℕ → ℕ → ℕ → ℕ
tiny_at s at end tag =
    cond (leb (at + 3) end && (eqb (get_or s at 0) tag && eqb (get_or s (at + 1) 0) 1)) (get_or s (at + 2) 0) 256

-- the length of contents whose length is one octet, or else 256
unfoldable pub short_at : List ℕ → ℕ → ℕ → ℕ → ℕ
short_at s at end tag =
    cond (leb (at + 2) end && (eqb (get_or s at 0) tag && (ltb (get_or s (at + 1) 0) 128 && leb (at + 2 + get_or s (at + 1) 0) end))) (get_or s (at + 1) 0) 256
