-- Identifiers of requests: numbers from -32,768 to 32,767, held as 16 bits.
use Rattle.std.specs.Prelude.{ℕ, ◌+◌, ◌%◌, ◌^◌, cond, ℤ, pos, negsuc, ◌+ℤ◌, ◌==◌}

-- the pattern after a pattern: a wrapping add of one
abbrev pub next_of : ℕ → ℕ
next_of id = (id + 1) % 2 ^ 16

-- the number after a number: one up, and after 32,767 comes -32,768 (negsuc n is -1 - n)
abbrev pub one_up : ℤ → ℤ
one_up (pos n) = cond (n == 32767) (negsuc 32767) (pos n +ℤ pos 1)
one_up (negsuc n) = negsuc n +ℤ pos 1
