-- The tag of a number.
use Rattle.std.specs.Prelude.{cond, ℕ, eqb}

-- the tag of a number of a kind: A1 public, A5 private
abbrev pub plan_tag : ℕ → ℕ
plan_tag k = cond (eqb k 4) 0xa5 0xa1
