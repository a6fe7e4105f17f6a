-- A call's event list in two slices: rows of six numbers, and the octets of all events end to end.
-- A row: the kind; the services asked for, 1 S, 2 D, 4 E added up; the identifiers of S, D, E; how many of the octets are the event's.
use Rattle.std.specs.Prelude.{ℕ, zero, suc, ◌+◌, ◌-◌, ◌*◌, ◌/◌, ◌%◌, Bool, ◌&&◌, cond, List, [], ◌∷◌, length, get_or, take, drop, leb, eqb}
use Rattle.requests.specs.declared.Services.{Services}
use Rattle.phases.specs.declared.Event.{Event}
use Rattle.phases.specs.Phases.{Given, event}

-- a number that is no octet is the kind of no event
abbrev pub kind_of : ℕ → ℕ
kind_of n = cond (leb n 255) n 0

abbrev pub set_of : ℕ → Services
set_of n = record { s = n % 2; d = n / 2 % 2; e = n / 4 % 2 }

abbrev pub row_at : List ℕ → ℕ → Event
row_at rows i = record {
  kind = kind_of (get_or rows (i * 6) 0);
  asked = set_of (get_or rows (i * 6 + 1) 0);
  s = get_or rows (i * 6 + 2) 0;
  d = get_or rows (i * 6 + 3) 0;
  e = get_or rows (i * 6 + 4) 0;
}

abbrev pub count_at : List ℕ → ℕ → ℕ
count_at rows i = get_or rows (i * 6 + 5) 0

-- whether the counts of k rows from i on add up to the octets that are left
unfoldable pub rows_fit : List ℕ → ℕ → ℕ → ℕ → Bool
rows_fit rows i zero left = eqb left 0
rows_fit rows i (suc k) left = leb (count_at rows i) left && rows_fit rows (i + 1) k (left - count_at rows i)

-- whether the slices are an event list: whole rows, whose counts add up to the octets
unfoldable pub adds_up : List ℕ → ℕ → Bool
unfolding rows_fit
adds_up rows total = eqb (length rows % 6) 0 && rows_fit rows 0 (length rows / 6) total

-- the events of k rows from i on, whose octets begin at a place
unfoldable pub events_from : List ℕ → List ℕ → ℕ → ℕ → ℕ → List Given
events_from rows octets i zero at = []
events_from rows octets i (suc k) at = event (row_at rows i) (take (count_at rows i) (drop at octets)) ∷ events_from rows octets (i + 1) k (at + count_at rows i)

unfoldable pub events_of : List ℕ → List ℕ → List Given
unfolding events_from
events_of rows octets = events_from rows octets 0 (length rows / 6) 0
