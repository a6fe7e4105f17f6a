-- Operations on a switchboard, and what the rules say of them over the list of what was done: no table, and no slot.
use Rattle.std.specs.Prelude.{ℕ, suc, ◌-◌, List, [], ◌∷◌, Bool, true, false, not, ◌&&◌, cond, eqb}
use Rattle.phases.specs.declared.Outcome.{Outcome}
use Rattle.phases.specs.Phases.{Setup, Ended, no_service, Given}
use Rattle.outcomes.specs.Outcome.{judge}
use Rattle.account.specs.declared.Account.{Account}
use Rattle.account.specs.History.{known, judged, phase, closing, account_by, fresh, stepped, Shown, read_off}
use Rattle.account.specs.Step.{ours}
use Rattle.board_rules.specs.declared.Board.{Board}
use Rattle.board_rules.specs.declared.Collected.{Collected}
use Rattle.board_rules.specs.declared.Viewed.{Viewed}
use Rattle.board_rules.specs.Board.{event_on, collect_on, view_on, uncollected}

-- ---- operations, each for a reference, and their answers

pub data Operation : Type 0 where
  happens : ℕ → Given → Operation
  collects : ℕ → Operation
  views : ℕ → Operation

abbrev pub reference_of : Operation → ℕ
reference_of (happens r g) = r
reference_of (collects r) = r
reference_of (views r) = r

pub data Answer : Type 0 where
  outcome : Outcome → Answer
  collected : Collected → Answer
  viewed : Viewed → Answer

abbrev pub answer_number : Answer → ℕ
answer_number (outcome o) = o.number
answer_number (collected c) = c.number
answer_number (viewed v) = v.number

-- an operation with its answer
pub record Done : Type 0 where
  pub operation : Operation
  pub answer : Answer

abbrev pub did : Operation → Answer → Done
did x a = record { operation = x; answer = a }

-- ---- the table goes through a list of operations

abbrev pub answer_on : Board → Operation → Answer
answer_on b (happens r g) = outcome (event_on b r g.event g.octets).outcome
answer_on b (collects r) = collected (collect_on b r).answer
answer_on b (views r) = viewed (view_on b r)

abbrev pub next_on : Board → Operation → Board
next_on b (happens r g) = (event_on b r g.event g.octets).board
next_on b (collects r) = (collect_on b r).board
next_on b (views r) = b

abbrev pub run_on : Board → List Operation → List Done
run_on b [] = []
run_on b (x ∷ l) = did x (answer_on b x) ∷ run_on (next_on b x) l

-- the table after them
abbrev pub after_all : Board → List Operation → Board
after_all b [] = b
after_all b (x ∷ l) = after_all (next_on b x) l

-- ---- what was done, the latest first

abbrev pub is_setup : Given → Bool
is_setup g = eqb g.event.kind Setup

-- a reference with no events holds no call
abbrev pub is_open : List Given → Bool
is_open [] = false
is_open (g ∷ l) = true

-- the events of the call that a reference holds, after an operation of it with the number that it was answered: from an accepted Setup to a collection.
-- A Setup that was refused is left out, and so is an event while no call is held
abbrev pub carried : Operation → ℕ → List Given → List Given
carried (happens r g) n l = cond (is_setup g) (cond (eqb n 0) (g ∷ []) l) (cond (is_open l) (g ∷ l) l)
carried (collects r) n l = cond (eqb n 0) [] l
carried (views r) n l = l

abbrev pub present : ℕ → List Done → List Given
present r [] = []
present r (d ∷ h) = cond (eqb (reference_of d.operation) r) (carried d.operation (answer_number d.answer) (present r h)) (present r h)

-- how many calls are held: an accepted Setup begins one, a collection ends one
abbrev pub calls_after : Operation → ℕ → ℕ → ℕ
calls_after (happens r g) n k = cond (is_setup g && eqb n 0) (suc k) k
calls_after (collects r) n k = cond (eqb n 0) (k - 1) k
calls_after (views r) n k = k

abbrev pub calls : List Done → ℕ
calls [] = 0
calls (d ∷ h) = calls_after d.operation (answer_number d.answer) (calls h)

-- ---- what the rules answer, from the number of calls that are held and the events of the reference's own

abbrev pub ruling : ℕ → List Given → Operation → Answer
ruling n l (happens r g) =
    cond (is_setup g)
    (cond (is_open l) (outcome (no_service 35))
    (cond (eqb n 64) (outcome (no_service 36)) (outcome (judge (known (judged [])) g.event g.octets))))
    (cond (is_open l) (outcome (judge (known (judged l)) g.event g.octets)) (outcome (no_service 37)))
ruling n l (collects r) =
    cond (is_open l)
    (cond (eqb (phase (judged l)) Ended) (collected (record { number = 0; closing = closing (judged l) })) (collected (uncollected 14)))
    (collected (uncollected 37))
ruling n l (views r) = cond (is_open l) (viewed (record { number = 0; account = account_by (judged l) })) (viewed (record { number = 37; account = fresh }))

-- each operation of a list, after what was done before
abbrev pub ruled_all : List Done → List Operation → List Done
ruled_all h [] = []
ruled_all h (x ∷ l) =
    did x (ruling (calls h) (present (reference_of x) h) x) ∷ ruled_all (did x (ruling (calls h) (present (reference_of x) h) x) ∷ h) l

-- what a reference's own operations get where the table is never full, after the events of the call that it holds
abbrev pub ruled_alone : List Given → List Operation → List Done
ruled_alone p [] = []
ruled_alone p (x ∷ l) = did x (ruling 0 p x) ∷ ruled_alone (carried x (answer_number (ruling 0 p x)) p) l

-- ---- one reference's own

abbrev pub own : ℕ → List Operation → List Operation
own r [] = []
own r (x ∷ l) = cond (eqb (reference_of x) r) (x ∷ own r l) (own r l)

abbrev pub own_done : ℕ → List Done → List Done
own_done r [] = []
own_done r (d ∷ l) = cond (eqb (reference_of d.operation) r) (d ∷ own_done r l) (own_done r l)

-- a Setup that was refused because the table was full
abbrev pub setup_full : Operation → ℕ → Bool
setup_full (happens r g) n = is_setup g && eqb n 36
setup_full (collects r) n = false
setup_full (views r) n = false

abbrev pub none_full : List Done → Bool
none_full [] = true
none_full (d ∷ l) = not (setup_full d.operation (answer_number d.answer)) && none_full l

-- ---- one call, read after each of its events

abbrev pub watched : ℕ → List Given → List Operation
watched r [] = []
watched r (g ∷ l) = happens r g ∷ views r ∷ watched r l

-- a Setup that was refused 35
abbrev pub left_out : Operation → ℕ → Bool
left_out (happens r g) n = is_setup g && eqb n 35
left_out (collects r) n = false
left_out (views r) n = false

abbrev pub outcome_in : Answer → Outcome
outcome_in (outcome o) = o
outcome_in (collected c) = no_service 0
outcome_in (viewed v) = no_service 0

abbrev pub account_in : Answer → Account
account_in (outcome o) = fresh
account_in (collected c) = fresh
account_in (viewed v) = v.account

-- of each event, and the reading after it, what a host has: the outcome, and what it reads off the account
abbrev pub readings : List Done → List Shown
readings [] = []
readings (d ∷ []) = []
readings (d ∷ v ∷ l) =
    cond (left_out d.operation (answer_number d.answer)) (readings l) (read_off ours (stepped (outcome_in d.answer) (account_in v.answer)) ∷ readings l)

-- the events but Setups
abbrev pub no_setups : List Given → List Given
no_setups [] = []
no_setups (g ∷ l) = cond (is_setup g) (no_setups l) (g ∷ no_setups l)
