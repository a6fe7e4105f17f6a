-- What storing events in the caller's two slices does, and what a loop that stores them knows.
use Rattle.std.specs.Prelude.{ℕ, ◌≡◌, List, ◌++◌, length}
use Rattle.coding.specs.inner.Written.{Wrote, Room}
use Rattle.phases.specs.Phases.{Given}
use Rattle.events.specs.Laid.{rows_of, octets_of}
use Rattle.trace.specs.declared.Put.{Put}
use Rattle.trace.specs.declared.Laid.{Laid}
use Rattle.trace.specs.Into.{fits_in, room_of, laid_over}

-- the events l are laid into both slices from a place on
pub record Puts (rows rows' out out' : List ℕ) (p : Put) (l : List Given) (q : Put) : Type 0 where
  pub in_rows : Wrote rows rows' p.rows (rows_of l) q.rows
  pub in_out : Wrote out out' p.octets (octets_of l) q.octets

-- and they fit there
pub record Rooms (rows out : List ℕ) (p : Put) (l : List Given) : Type 0 where
  pub for_rows : Room rows p.rows (rows_of l)
  pub for_out : Room out p.octets (octets_of l)

-- of a list of events, some are laid into the slices and some are left
pub record Progress (rows rows' out out' : List ℕ) (p q : Put) (left total : List Given) : Type 0 where
  pub done : List Given
  pub laid : Puts rows rows' out out' p done q
  pub room : Rooms rows' out' q left
  pub all : done ++ left ≡ total

-- events without octets fit
pub record RowsFor (rows : List ℕ) (p : Put) (l : List Given) : Type 0 where
  pub for_rows : Room rows p.rows (rows_of l)

-- a list of events is laid from the start, or there is too little room for it
pub record Lays (l : List Given) (n : ℕ) (rows rows' out out' : List ℕ) (r : Laid) : Type 0 where
  pub answer : r ≡ room_of l n (length rows) (length out)
  pub in_rows : rows' ≡ laid_over (fits_in n (length rows) (length out)) (rows_of l) rows
  pub in_out : out' ≡ laid_over (fits_in n (length rows) (length out)) (octets_of l) out
