-- What the functions by value do with a slot. proofs/ByValue.antt ties them to the table's operations.
use Rattle.std.specs.Prelude.{ℕ, ◌<◌, List, cond, eqb, Option, Some, None}
use Rattle.std.specs.Bool.{⊤}
use Rattle.coding.specs.Reader.{among}
use Rattle.phases.specs.declared.Event.{Event}
use Rattle.phases.specs.declared.Outcome.{Outcome}
use Rattle.phases.specs.declared.Status.{Status}
use Rattle.phases.specs.Phases.{Setup, Ended}
use Rattle.phases.specs.inner.ByNumber.{moving_of}
use Rattle.account.specs.declared.Account.{Account}
use Rattle.account.specs.History.{fresh_status, fresh}
use Rattle.account.specs.Step.{closing_of}
use Rattle.board_rules.specs.declared.Collected.{Collected}
use Rattle.board_rules.specs.declared.Seat.{Seat}
use Rattle.board_rules.specs.declared.Seat.TheVariants.{Free, Own, Refused}
use Rattle.board_rules.specs.declared.Held.{Held}
use Rattle.board_rules.specs.declared.Freed.{Freed}
use Rattle.board_rules.specs.Board.{key_of, lowest, uncollected}

-- the lowest slot with a key, if one has it
abbrev pub slot_with : ℕ → List ℕ → Option ℕ
slot_with k keys = cond (among k keys) (Some (lowest k keys)) None

-- a seat's slot is one of the 64
abbrev pub Inside : Seat → Type 0
Inside (Free i) = i < 64
Inside (Own i) = i < 64
Inside (Refused n) = ⊤

-- a free slot, for a Setup with a number
abbrev pub free_seat : ℕ → ℕ → Seat
free_seat i n = cond (eqb n 0) (Free i) (Refused n)

unfoldable pub seat_of : List ℕ → ℕ → Event → Seat
seat_of keys reference e =
    cond (eqb e.kind Setup)
    (cond (among (key_of reference) keys) (Refused 35)
    (cond (among 0 keys) (free_seat (lowest 0 keys) (moving_of fresh_status e).outcome.number) (Refused 36)))
    (cond (among (key_of reference) keys) (Own (lowest (key_of reference) keys)) (Refused 37))

abbrev pub held : Outcome → ℕ → Account → Held
held r k a = record { outcome = r; key = k; account = a }

-- the account of a call that has had one event that is no component
abbrev pub begun : Status → Account
begun t = record { status = t; rate = fresh.rate; running = fresh.running; dfinal = fresh.dfinal; efinal = fresh.efinal }

unfoldable pub taken_up : ℕ → Event → Held
taken_up reference e = held (moving_of fresh_status e).outcome (key_of reference) (begun (moving_of fresh_status e).status)

abbrev pub freed : Collected → ℕ → Account → Freed
freed r k a = record { answer = r; key = k; account = a }

unfoldable pub free_of : Account → ℕ → Freed
free_of a key = cond (eqb a.status.phase Ended) (freed (record { number = 0; closing = closing_of a }) 0 fresh) (freed (uncollected 14) key a)
