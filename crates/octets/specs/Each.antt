-- A test over the numbers below one.
use Rattle.std.specs.Prelude.{ℕ, zero, suc, Bool, true, ◌&&◌}

-- a test passes at each number below n
abbrev pub each : ℕ → (ℕ → Bool) → Bool
each zero t = true
each (suc n) t = each n t && t n
