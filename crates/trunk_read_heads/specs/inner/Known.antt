-- The values known in a trunk's frame (1 invoke, 2 return result, 3 return error).
use Rattle.std.specs.Prelude.{ℕ, cond, List, eqb}
use Rattle.trunk_types.specs.Components.{trunk_operations, answerable, trunk_errors}

abbrev pub known_in : ℕ → List ℕ
known_in k = cond (eqb k 1) trunk_operations (cond (eqb k 2) answerable trunk_errors)
