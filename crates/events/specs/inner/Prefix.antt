-- The first events of a list in slices, the latest first, as a history has them.
use Rattle.std.specs.Prelude.{ℕ, zero, suc, ◌+◌, List, [], ◌∷◌, take, drop}
use Rattle.phases.specs.Phases.{Given, event}
use Rattle.events.specs.Events.{row_at, count_at}

-- where the octets of row i's event begin
unfoldable pub place_at : List ℕ → ℕ → ℕ
place_at rows zero = 0
place_at rows (suc i) = place_at rows i + count_at rows i

abbrev pub octets_at : List ℕ → List ℕ → ℕ → List ℕ
octets_at rows octets i = take (count_at rows i) (drop (place_at rows i) octets)

abbrev pub given_at : List ℕ → List ℕ → ℕ → Given
given_at rows octets i = event (row_at rows i) (octets_at rows octets i)

-- the first k events
unfoldable pub before : List ℕ → List ℕ → ℕ → List Given
before rows octets zero = []
before rows octets (suc k) = given_at rows octets k ∷ before rows octets k
