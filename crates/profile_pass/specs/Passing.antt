-- Both families, gone through by the element's own third octet.
use Rattle.types.specs.declared.Record.{Record}
use Rattle.trunk_types.specs.declared.Trunk.{Trunk}
use Rattle.element_pass.specs.Pass.{Reads, Passed}
use Rattle.profile_read.specs.Profile.{Either, of_none, read_by, either_in}
use Rattle.profile_pass.specs.declared.NextBy.{NextBy}

abbrev pub families : Reads Either
families = record { by = read_by; none = of_none }

-- what is answered by value, and the two records
abbrev pub next_in : NextBy → Record → Trunk → Passed Either
next_in r line trunk = record { ended = r.ended; after = r.after; answer = either_in r.answer line trunk }
