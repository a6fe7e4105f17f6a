-- What the readers of frames say of their answers.
use Rattle.std.specs.Prelude.{ℕ, List, eqb}
use Rattle.coding.specs.Codec.{Run, pick_run}
use Rattle.types.specs.declared.Charge.{Charge}
use Rattle.types.specs.Stored.{stored}
use Rattle.read_elements.specs.declared.Empty.{Empty}
use Rattle.trunk_types.specs.declared.Extension.{Extension}
use Rattle.trunk_types.specs.declared.Trunk.{Trunk}
use Rattle.trunk_types.specs.Extensions.{parameter, unextended}
use Rattle.trunk_types.specs.Components.{no_trunk}
use Rattle.trunk_types.specs.Stored.{trunk_in}

-- where reading ended, and the component in the parts
abbrev pub framed : Empty → List ℕ → List ℕ → Charge → ℕ × ℕ × Trunk × ℕ
framed r front extension charge = (r.fault, r.place, stored no_trunk r.fault (trunk_in front extension charge), r.next)

-- what may follow an error
abbrev pub failure : ℕ → Run Extension
failure e = pick_run (eqb e 1008) parameter unextended
