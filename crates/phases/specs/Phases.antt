-- A call's phases and the events that lead from one to another; what an event asks for, and what it does to the status. Numbers are those of the paper.
use Rattle.std.specs.Prelude.{ℕ, List, [], ◌∷◌, Bool, false, not, ◌&&◌, ◌||◌, cond, eqb}
use Rattle.phases.specs.declared.Event.{Event}
use Rattle.phases.specs.declared.Outcome.{Outcome}
use Rattle.phases.specs.declared.Status.{Status}

-- ---- phases

abbrev pub Idle : ℕ
Idle = 0

abbrev pub Establishment : ℕ
Establishment = 1

abbrev pub Active : ℕ
Active = 2

abbrev pub Clearing : ℕ
Clearing = 3

abbrev pub Ended : ℕ
Ended = 4

abbrev pub Suspended : ℕ
Suspended = 5

-- ---- kinds of events

abbrev pub Setup : ℕ
Setup = 1

abbrev pub Connect : ℕ
Connect = 2

abbrev pub Clear : ℕ
Clear = 3

abbrev pub Released : ℕ
Released = 4

abbrev pub Component : ℕ
Component = 5

abbrev pub Suspend : ℕ
Suspend = 6

abbrev pub Resume : ℕ
Resume = 7

-- ---- the phase events, each from a phase to a phase; Component is allowed in all phases but Idle and Ended

pub record Transition : Type 0 where
  pub event : ℕ
  pub from : ℕ
  pub to : ℕ

abbrev pub goes : ℕ → ℕ → ℕ → Transition
goes k p n = record { event = k; from = p; to = n }

abbrev pub transitions : List Transition
transitions =
    goes Setup Idle Establishment
    ∷ goes Connect Establishment Active
    ∷ goes Clear Establishment Clearing
    ∷ goes Clear Active Clearing
    ∷ goes Clear Suspended Clearing
    ∷ goes Released Clearing Ended
    ∷ goes Suspend Active Suspended
    ∷ goes Resume Suspended Active
    ∷ goes Component Establishment Establishment
    ∷ goes Component Active Active
    ∷ goes Component Clearing Clearing
    ∷ goes Component Suspended Suspended
    ∷ []

-- a row is that of an event in a phase
abbrev pub is_for : Transition → ℕ → ℕ → Bool
is_for r kind phase = eqb r.event kind && eqb r.from phase

abbrev pub allowed_by : List Transition → ℕ → ℕ → Bool
allowed_by [] kind phase = false
allowed_by (r ∷ l) kind phase = is_for r kind phase || allowed_by l kind phase

abbrev pub leads_by : List Transition → ℕ → ℕ → ℕ
leads_by [] kind phase = phase
leads_by (r ∷ l) kind phase = cond (is_for r kind phase) r.to (leads_by l kind phase)

-- an event is allowed in a phase where a row is its own; it leads where that row says
unfoldable pub allowed : ℕ → ℕ → Bool
allowed = allowed_by transitions

unfoldable pub leads_to : ℕ → ℕ → ℕ
leads_to = leads_by transitions

-- ---- services, numbered as in a set of them, and outcomes

abbrev pub S : ℕ
S = 1

abbrev pub D : ℕ
D = 2

abbrev pub E : ℕ
E = 3

abbrev pub outcome : ℕ → ℕ → Outcome
outcome n s = record { number = n; service = s }

-- an outcome of no service
abbrev pub no_service : ℕ → Outcome
no_service n = outcome n 0

-- ---- requests

pub record Request : Type 0 where
  pub mark : ℕ
  pub id : ℕ

abbrev pub no_request : Request
no_request = record { mark = 0; id = 0 }

-- a mark of 0 asks for nothing, any other mark asks
abbrev pub asking : ℕ → ℕ → Request
asking mark id = cond (eqb mark 0) no_request (record { mark = 1; id = id })

-- what a Setup asks for a service
abbrev pub request_for : ℕ → Event → Request
request_for s e =
    cond (eqb s S) (asking e.asked.s e.s)
    (cond (eqb s D) (asking e.asked.d e.d) (asking e.asked.e e.e))

-- two requests with one identifier
abbrev pub clash : Request → Request → Bool
clash p q = not (eqb p.mark 0) && (not (eqb q.mark 0) && eqb p.id q.id)

abbrev pub clashes : Event → Bool
clashes e = clash (request_for S e) (request_for D e) || (clash (request_for S e) (request_for E e) || clash (request_for D e) (request_for E e))

-- ---- an event with its octets

pub record Given : Type 0 where
  pub event : Event
  pub octets : List ℕ

abbrev pub event : Event → List ℕ → Given
event e o = record { event = e; octets = o }

-- ---- the status after a phase event that is not refused, by the phase that it leads to

abbrev pub moved : Status → Event → ℕ → Status
moved t e phase = record {
  phase = phase;
  asked = record {
    s = cond (eqb e.kind Setup) (request_for S e).mark t.asked.s;
    d = cond (eqb e.kind Setup) (request_for D e).mark t.asked.d;
    e = cond (eqb e.kind Setup) (request_for E e).mark t.asked.e;
  };
  s = cond (eqb e.kind Setup) (request_for S e).id t.s;
  d = cond (eqb e.kind Setup) (request_for D e).id t.d;
  e = cond (eqb e.kind Setup) (request_for E e).id t.e;
  absent = t.absent;
  conflict = t.conflict;
}
