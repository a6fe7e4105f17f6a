-- An answer whose record lies in the caller's four parts.
use Rattle.std.specs.Prelude.{ℕ, List}
use Rattle.types.specs.declared.Answer.{Answer}
use Rattle.types.specs.Stored.{record_in}
use Rattle.read.specs.declared.Refusal.{Refusal}

-- what an answer and the parts say together
abbrev pub whole_answer : Refusal → List ℕ → List ℕ → List ℕ → List ℕ → Answer
whole_answer r front figure numbers rows = record { number = r.number; offset = r.offset; value = record_in front figure numbers rows }
