-- A list of events as it is laid into slices: `events_of` reads it off them again (`reads_back`).
use Rattle.std.specs.Prelude.{ℕ, ◌+◌, List, [], ◌∷◌, ◌++◌, cond, length, eqb}
use Rattle.requests.specs.declared.Services.{Services}
use Rattle.phases.specs.declared.Event.{Event}
use Rattle.phases.specs.Phases.{Given}

-- the services asked for, 1 S, 2 D, 4 E added up
abbrev pub bits_of : Services → ℕ
bits_of t = cond (eqb t.s 0) 0 1 + cond (eqb t.d 0) 0 2 + cond (eqb t.e 0) 0 4

abbrev pub laid_row : Event → ℕ → List ℕ
laid_row e count = e.kind ∷ bits_of e.asked ∷ e.s ∷ e.d ∷ e.e ∷ count ∷ []

unfoldable pub rows_of : List Given → List ℕ
rows_of [] = []
rows_of (g ∷ l) = laid_row g.event (length g.octets) ++ rows_of l

unfoldable pub octets_of : List Given → List ℕ
octets_of [] = []
octets_of (g ∷ l) = g.octets ++ octets_of l
