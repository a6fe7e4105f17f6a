-- The reject sent in reply to a component that is refused.
use Rattle.std.specs.Prelude.{ℕ, List, cond}
use Rattle.types.specs.Frames.{read_of}
use Rattle.reply_rules.specs.Rejects.{is_silent_to, reject_to}
use Rattle.write.specs.declared.Written.{Written}
use Rattle.write.specs.Outcome.{done, write_of, left_of}

-- to octets whose refusal is known, of either family: the answer, and what is left in the caller's buffer
unfoldable pub reply_given : ℕ → List ℕ → ℕ → Written
reply_given n s room = cond (is_silent_to n s) (done 0) (write_of (reject_to n s) room)

unfoldable pub left_given : ℕ → List ℕ → List ℕ → List ℕ
left_given n s before = cond (is_silent_to n s) before (left_of (reject_to n s) before)

-- ---- of a public line

unfoldable pub reply_of : List ℕ → ℕ → Written
reply_of s room = reply_given (read_of s).number s room

unfoldable pub reply_left : List ℕ → List ℕ → List ℕ
reply_left s before = left_given (read_of s).number s before
