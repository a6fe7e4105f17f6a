-- How the code shows an answer: the fault's number, or 0; its place, or 0; the value, or the type's zero; the place after it, or 0.
use Rattle.std.specs.Prelude.{ℕ}
use Rattle.coding.specs.Reader.{Ans, code, Ruling}
use Rattle.coding.specs.Reader.Ans.{got, halt}
use Rattle.coding.specs.Reader.Ruling.{good, bad}

unfoldable pub shown : {A : Type 0} → A → Ans A → ℕ × ℕ × A × ℕ
shown z (got v next) = (0, 0, v, next)
shown z (halt w p) = (code w, p, z, 0)

-- a fault's number and place, and nothing else
abbrev pub refusal : {A : Type 0} → A → ℕ → ℕ → ℕ × ℕ × A × ℕ
refusal z k p = (k, p, z, 0)

-- contents that are checked: the fault's number, or 0; the value, or the type's zero
unfoldable pub verdict : {A : Type 0} → A → Ruling A → ℕ × A
verdict z (good v) = (0, v)
verdict z (bad w) = (code w, z)
