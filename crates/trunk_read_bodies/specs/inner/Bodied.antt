-- A body in the caller's parts, with its extension.
use Rattle.std.specs.Prelude.{ℕ, ◌≡◌, List, replicate}
use Rattle.types.specs.declared.Charge.{Charge}
use Rattle.types.specs.Stored.{Blank, stored}
use Rattle.read_elements.specs.declared.Empty.{Empty}
use Rattle.trunk_types.specs.declared.Body.{Body}
use Rattle.trunk_types.specs.Stored.{body_in}
use Rattle.trunk_types.specs.Bodies.{no_body}
unfoldable pub use Rattle.trunk_types.specs.Bodies.{charge_for}
unfoldable pub use Rattle.trunk_types.specs.inner.Forms.{inner_of}

-- parts that hold nothing yet
pub record Bare (front extension figure numbers rows : List ℕ) : Type 0 where
  pub front_bare : front ≡ replicate 48 0
  pub extension_bare : extension ≡ replicate 244 0
  pub charge_bare : Blank figure numbers rows

-- what was read: where it ended in an answer, and the body in the parts
abbrev pub bodied : Empty → List ℕ → List ℕ → Charge → ℕ × ℕ × Body × ℕ
bodied r front extension charge = (r.fault, r.place, stored no_body r.fault (body_in front extension charge), r.next)
