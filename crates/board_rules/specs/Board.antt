-- A table of accounts by call reference (document 02, request 13). A slot is free, or held by one reference with one account.
use Rattle.std.specs.Prelude.{ℕ, suc, ◌+◌, List, [], ◌∷◌, Bool, cond, get_or, set, replicate, eqb}
use Rattle.phases.specs.declared.Event.{Event}
use Rattle.phases.specs.declared.Outcome.{Outcome}
use Rattle.phases.specs.Phases.{Setup, Ended, no_service}
use Rattle.coding.specs.Reader.{among}
use Rattle.outcomes.specs.Outcome.{was}
use Rattle.account.specs.declared.Account.{Account}
use Rattle.account.specs.declared.Stepped.{Stepped}
use Rattle.account.specs.History.{fresh, no_closing}
use Rattle.account.specs.Step.{stepped_of, closing_of}
use Rattle.board_rules.specs.declared.Board.{Board}
use Rattle.board_rules.specs.declared.Collected.{Collected}
use Rattle.board_rules.specs.declared.Viewed.{Viewed}

-- ---- slots

-- the key of a slot that a reference holds; that of a free slot is 0
abbrev pub key_of : ℕ → ℕ
key_of reference = reference + 1

-- the lowest slot with a key; as many as there are where none has it
unfoldable pub lowest : ℕ → List ℕ → ℕ
lowest k [] = 0
lowest k (x ∷ l) = cond (eqb k x) 0 (suc (lowest k l))

-- how many slots are held
unfoldable pub held_in : List ℕ → ℕ
held_in [] = 0
held_in (x ∷ l) = cond (eqb 0 x) (held_in l) (suc (held_in l))

abbrev pub is_held : ℕ → Board → Bool
is_held reference b = among (key_of reference) b.keys

abbrev pub is_full : Board → Bool
is_full b = eqb (held_in b.keys) 64

-- the account that a reference holds
abbrev pub call_of : ℕ → Board → Account
call_of reference b = get_or b.calls (lowest (key_of reference) b.keys) fresh

-- the table with another key and account in a slot
abbrev pub with_slot : Board → ℕ → ℕ → Account → Board
with_slot b slot k a = record { keys = set b.keys slot k; calls = set b.calls slot a }

abbrev pub fresh_board : Board
fresh_board = record { keys = replicate 64 0; calls = replicate 64 fresh }

-- ---- an event: a Setup for a reference in use 35, then table full 36; any other event for a reference not held 37; then 01's step

pub record Boarded : Type 0 where
  pub outcome : Outcome
  pub board : Board

abbrev pub boarded : Outcome → Board → Boarded
boarded r b = record { outcome = r; board = b }

-- a Setup that is accepted takes the lowest free slot, and one refused 13 takes none
abbrev pub admitted : Board → ℕ → Stepped → Boarded
admitted b reference w =
    cond (was 0 w.outcome) (boarded w.outcome (with_slot b (lowest 0 b.keys) (key_of reference) w.account)) (boarded w.outcome b)

-- the account that the reference holds after the step
abbrev pub updated : Board → ℕ → Stepped → Boarded
updated b reference w = boarded w.outcome (with_slot b (lowest (key_of reference) b.keys) (key_of reference) w.account)

unfoldable pub event_on : Board → ℕ → Event → List ℕ → Boarded
event_on b reference e o =
    cond (eqb e.kind Setup)
    (cond (is_held reference b) (boarded (no_service 35) b)
    (cond (is_full b) (boarded (no_service 36) b) (admitted b reference (stepped_of fresh e o))))
    (cond (is_held reference b) (updated b reference (stepped_of (call_of reference b) e o)) (boarded (no_service 37) b))

-- ---- a collection: a reference not held 37, before Ended 14; else the closing figure, or its lack, and the slot is free

pub record Emptied : Type 0 where
  pub answer : Collected
  pub board : Board

abbrev pub emptied : Collected → Board → Emptied
emptied r b = record { answer = r; board = b }

abbrev pub uncollected : ℕ → Collected
uncollected n = record { number = n; closing = no_closing }

unfoldable pub collect_on : Board → ℕ → Emptied
collect_on b reference =
    cond (is_held reference b)
    (cond (eqb (call_of reference b).status.phase Ended)
    (emptied (record { number = 0; closing = closing_of (call_of reference b) }) (with_slot b (lowest (key_of reference) b.keys) 0 fresh))
    (emptied (uncollected 14) b))
    (emptied (uncollected 37) b)

-- ---- reading what a reference holds

unfoldable pub view_on : Board → ℕ → Viewed
view_on b reference = cond (is_held reference b) (record { number = 0; account = call_of reference b }) (record { number = 37; account = fresh })
