-- An answer whose component lies in the caller's five parts.
use Rattle.std.specs.Prelude.{ℕ, List}
use Rattle.types.specs.Stored.{stored_charge}
use Rattle.read.specs.declared.Refusal.{Refusal}
use Rattle.trunk_types.specs.declared.TrunkAnswer.{TrunkAnswer}
use Rattle.trunk_types.specs.Stored.{trunk_in}

-- what an answer and the parts say together
abbrev pub whole_trunk : Refusal → List ℕ → List ℕ → List ℕ → List ℕ → List ℕ → TrunkAnswer
whole_trunk r front extension figure numbers rows =
    record { number = r.number; offset = r.offset; value = trunk_in front extension (stored_charge figure numbers rows) }
