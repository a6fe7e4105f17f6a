-- One call's events, and what the rules pick out of their list. A history has the latest event first.
use Rattle.std.specs.Prelude.{ℕ, ◌≡◌, List, [], ◌∷◌, Bool, false, ◌&&◌, ◌||◌, cond, eqb}
use Rattle.types.specs.declared.Charge.{Charge}
use Rattle.types.specs.Charges.{flag}
use Rattle.types.specs.Arguments.{no_charge}
use Rattle.phases.specs.declared.Event.{Event}
use Rattle.phases.specs.declared.Outcome.{Outcome}
use Rattle.phases.specs.declared.Status.{Status}
use Rattle.account.specs.declared.Account.{Account}
use Rattle.account.specs.declared.Closing.{Closing}
use Rattle.account.specs.declared.Marks.{Marks}
use Rattle.account.specs.declared.Pending.{Pending}
use Rattle.account.specs.declared.Stepped.{Stepped}
use Rattle.requests.specs.Sets.{empty_set}
use Rattle.phases.specs.Phases.{Idle, Ended, Setup, leads_to, S, D, E, Request, no_request, request_for, Given}
use Rattle.outcomes.specs.Outcome.{Requests, Known, judge, charge_in, was, its, settles}

-- an event with its octets and its outcome
pub record Judged : Type 0 where
  pub event : Event
  pub octets : List ℕ
  pub outcome : Outcome

-- ---- going over a list

abbrev pub any : (Judged → Bool) → List Judged → Bool
any t [] = false
any t (j ∷ h) = t j || any t h

-- the charge of the last event that passes a test
abbrev pub last : (Judged → Bool) → List Judged → Charge
last t [] = no_charge
last t (j ∷ h) = cond (t j) (charge_in j.octets) (last t h)

-- ---- the phase follows from the phase events not refused

abbrev pub phase : List Judged → ℕ
phase [] = Idle
phase (j ∷ h) = cond (was 0 j.outcome) (leads_to j.event.kind (phase h)) (phase h)

-- ---- a request is pending if the one accepted Setup named it and no earlier event was its 24 or 25

abbrev pub named : ℕ → List Judged → Request
named s [] = no_request
named s (j ∷ h) = cond (eqb j.event.kind Setup && was 0 j.outcome) (request_for s j.event) (named s h)

abbrev pub pending : ℕ → List Judged → Request
pending s h = cond (any (λ j. settles s j.outcome) h) no_request (named s h)

-- ---- a final has a predecessor if an earlier event was its service's 22

abbrev pub has_final : ℕ → List Judged → Bool
has_final s h = any (λ j. its s 22 j.outcome) h

abbrev pub final : ℕ → List Judged → Charge
final s h = last (λ j. its s 22 j.outcome) h

-- ---- a service has a mark if an earlier event was its 23 or, for conflict, its 29

abbrev pub unavailable : ℕ → List Judged → Bool
unavailable s h = any (λ j. its s 23 j.outcome) h

abbrev pub conflicting : ℕ → List Judged → Bool
conflicting s h = any (λ j. its s 29 j.outcome) h

abbrev pub marks : List Judged → Marks
marks h = record {
  absent = record { s = flag (unavailable S h); d = flag (unavailable D h); e = flag (unavailable E h) };
  conflict = record { s = flag (conflicting S h); d = flag (conflicting D h); e = flag (conflicting E h) };
}

-- ---- the rate is that of the last 20 or S 24; the running figure that of the last 21

abbrev pub current_rate : List Judged → Charge
current_rate h = last (λ j. was 20 j.outcome || its S 24 j.outcome) h

abbrev pub running : List Judged → Charge
running h = last (λ j. was 21 j.outcome) h

-- ---- the closing figure is none before Ended, then E's only 22, else D's, else none

abbrev pub no_closing : Closing
no_closing = record { service = 0; value = no_charge }

abbrev pub closing : List Judged → Closing
closing h =
    cond (eqb (phase h) Ended)
    (cond (has_final E h) (record { service = E; value = final E h })
    (cond (has_final D h) (record { service = D; value = final D h }) no_closing))
    no_closing

-- ---- each event's outcome follows from what came before it

abbrev pub requests : List Judged → Requests
requests h = record {
  asked = record { s = (pending S h).mark; d = (pending D h).mark; e = (pending E h).mark };
  s = (pending S h).id;
  d = (pending D h).id;
  e = (pending E h).id;
}

abbrev pub known : List Judged → Known
known h = record {
  phase = phase h;
  pending = requests h;
  by_d = record { given = has_final D h; charge = final D h };
  by_e = record { given = has_final E h; charge = final E h };
}

abbrev pub add : Given → List Judged → List Judged
add g h = record { event = g.event; octets = g.octets; outcome = judge (known h) g.event g.octets } ∷ h

abbrev pub judged : List Given → List Judged
judged [] = []
judged (g ∷ h) = add g (judged h)

-- ---- the account that stands for a history

abbrev pub status_by : List Judged → Status
status_by h = record {
  phase = phase h;
  asked = (requests h).asked;
  s = (requests h).s;
  d = (requests h).d;
  e = (requests h).e;
  absent = (marks h).absent;
  conflict = (marks h).conflict;
}

abbrev pub account_by : List Judged → Account
account_by h = record { status = status_by h; rate = current_rate h; running = running h; dfinal = final D h; efinal = final E h }

-- an account that stands for no events
abbrev pub fresh_status : Status
fresh_status = record { phase = Idle; asked = empty_set; s = 0; d = 0; e = 0; absent = empty_set; conflict = empty_set }

abbrev pub fresh : Account
fresh = record { status = fresh_status; rate = no_charge; running = no_charge; dfinal = no_charge; efinal = no_charge }

-- the requests pending as they are handed over
abbrev pub pending_of : Requests → Pending
pending_of q = record { asked = q.asked; unused = 0; s = q.s; d = q.d; e = q.e }

-- ---- the step by the list: the outcome of an event after a history, and the account of the history with the event

abbrev pub stepped : Outcome → Account → Stepped
stepped r a = record { outcome = r; account = a }

abbrev pub stepped_by : Given → List Given → Stepped
stepped_by g h = stepped (judge (known (judged h)) g.event g.octets) (account_by (judged (g ∷ h)))

-- ---- what can be read after an event: its outcome, the rate, the running and the closing figure, and the marks

pub record Shown : Type 0 where
  pub outcome : Outcome
  pub rate : Charge
  pub running : Charge
  pub closing : Closing
  pub marks : Marks

-- what the rules pick out of a history with an event added
abbrev pub shown : Given → List Given → Shown
shown g h = record {
  outcome = judge (known (judged h)) g.event g.octets;
  rate = current_rate (judged (g ∷ h));
  running = running (judged (g ∷ h));
  closing = closing (judged (g ∷ h));
  marks = marks (judged (g ∷ h));
}

-- the same of each event of a list, the earliest first, after the events of a history
abbrev pub picked : List Given → List Given → List Shown
picked h [] = []
picked h (g ∷ l) = shown g h ∷ picked (g ∷ h) l

-- ---- what a host calls: a step, and what it reads off the account

pub record Calls : Type 0 where
  pub step : Account → Event → List ℕ → Stepped
  pub rate : Account → Charge
  pub running : Account → Charge
  pub closing : Account → Closing
  pub marks : Account → Marks

-- each does by the rules at an account that stands for a history
pub record Obeys (f : Calls) : Type 0 where
  pub step : (h : List Given) (g : Given) → f.step (account_by (judged h)) g.event g.octets ≡ stepped_by g h
  pub rate : (h : List Given) → f.rate (account_by (judged h)) ≡ current_rate (judged h)
  pub running : (h : List Given) → f.running (account_by (judged h)) ≡ running (judged h)
  pub closing : (h : List Given) → f.closing (account_by (judged h)) ≡ closing (judged h)
  pub marks : (h : List Given) → f.marks (account_by (judged h)) ≡ marks (judged h)

abbrev pub read_off : Calls → Stepped → Shown
read_off f r = record {
  outcome = r.outcome;
  rate = f.rate r.account;
  running = f.running r.account;
  closing = f.closing r.account;
  marks = f.marks r.account;
}

-- what a host reads that hands the step each event of a list in turn
abbrev pub answers : Calls → Account → List Given → List Shown
answers f a [] = []
answers f a (g ∷ l) = read_off f (f.step a g.event g.octets) ∷ answers f (f.step a g.event g.octets).account l
