-- What the readers of a trunk's figures say of their answers.
use Rattle.std.specs.Prelude.{ℕ, List}
use Rattle.read_elements.specs.declared.Empty.{Empty}
use Rattle.types.specs.declared.Charge.{Charge}
use Rattle.types.specs.Arguments.{plain, no_charge}
use Rattle.types.specs.Stored.{figure_in, stored}

-- what was read: where it ended in an answer, and the charge, which has no list, in the caller's figure
abbrev pub figured : Empty → List ℕ → ℕ × ℕ × Charge × ℕ
figured r figure = (r.fault, r.place, stored no_charge r.fault (plain (figure_in figure)), r.next)
