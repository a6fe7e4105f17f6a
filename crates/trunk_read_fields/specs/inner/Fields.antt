-- A body in the caller's parts, without its extension.
use Rattle.std.specs.Prelude.{ℕ, List}
use Rattle.coding.specs.Reader.{Reader, after, entries}
use Rattle.coding.specs.Reader.Ans.{got}
use Rattle.coding.specs.Codec.{prim}
use Rattle.coding.specs.Leaves.{number}
use Rattle.types.specs.declared.Charge.{Charge}
use Rattle.types.specs.Stored.{stored}
use Rattle.read_elements.specs.declared.Empty.{Empty}
use Rattle.trunk_types.specs.declared.Body.{Body}
use Rattle.trunk_types.specs.Bodies.{no_body, asking_for}
unfoldable pub use Rattle.trunk_types.specs.inner.Forms.{inner_in, users, diverting}

-- what was read: where it ended in an answer, and the body in the parts
abbrev pub inner : Empty → List ℕ → Charge → ℕ × ℕ × Body × ℕ
inner r front charge = (r.fault, r.place, stored no_body r.fault (inner_in front charge), r.next)

-- ---- the modes of 59 in their 30

unfoldable pub in_modes : Reader Body
in_modes s at end = after (entries 0x0a 7 (prim 0x0a (number 0 6)).read s at end) (λ xs n. got (asking_for xs) n)
