-- What the search for an end marker is given and how it answers. It calls itself by the octets, so the stack that it takes is bounded by them.
use Rattle.std.specs.Prelude.{ℕ, ◌+◌, ◌≤◌, List, length}
use Rattle.coding.specs.Reader.{Ans, code}
use Rattle.coding.specs.Reader.Ans.{got, halt}

-- an end that a reader may be given: inside the octets, and at most 257, as many as a Facility element has
abbrev pub Bounded : List ℕ → ℕ → Type 0
Bounded s end = (end ≤ length s) × (end ≤ 257)

-- the search's answer as one number: the end marker's place, or 1000 and the fault's number
unfoldable pub sought : Ans ℕ → ℕ
sought (got stop next) = stop
sought (halt w p) = 1000 + code w
