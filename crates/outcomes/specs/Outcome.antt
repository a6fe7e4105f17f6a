-- An event's outcome, from what is known of the call when it comes. The numbers of outcomes and refusals are those of the paper.
use Rattle.std.specs.Prelude.{ℕ, List, [], ◌∷◌, Bool, not, ◌&&◌, ◌||◌, cond, eqb, leb}
use Rattle.types.specs.declared.Charge.{Charge}
use Rattle.types.specs.declared.Front.{Front}
use Rattle.types.specs.declared.Record.{Record}
use Rattle.types.specs.declared.Answer.{Answer}
use Rattle.coding.specs.Reader.{among}
use Rattle.types.specs.Frames.{read_of}
use Rattle.requests.specs.declared.Services.{Services}
use Rattle.requests.specs.Sets.{has}
use Rattle.same_final.specs.Same.{same_of}
use Rattle.phases.specs.declared.Event.{Event}
use Rattle.phases.specs.declared.Outcome.{Outcome}
use Rattle.phases.specs.Phases.{Establishment, Active, Clearing, Suspended, Setup, Component, allowed, S, D, E, outcome, no_service, clashes}

-- ---- refusals: those of decoding, 13 and 14

abbrev pub refusals : List ℕ
refusals = 1 ∷ 2 ∷ 3 ∷ 4 ∷ 5 ∷ 6 ∷ 7 ∷ 8 ∷ 40 ∷ 41 ∷ 42 ∷ 43 ∷ 44 ∷ 45 ∷ 13 ∷ 14 ∷ []

unfoldable pub is_refusal : ℕ → Bool
is_refusal n = among n refusals

-- ---- the service of an invoke: 31, 32 S; 33, 34 D; 35, 36 E

abbrev pub service_of : ℕ → ℕ
service_of operation = cond (leb operation 32) S (cond (leb operation 34) D E)

-- ---- what is known when an event comes

-- the requests pending: for which services, and their identifiers
pub record Requests : Type 0 where
  pub asked : Services
  pub s : ℕ
  pub d : ℕ
  pub e : ℕ

-- the service whose pending request has the identifier, or 0
abbrev pub holder_of : Requests → ℕ → ℕ
holder_of q id =
    cond (has q.asked S && eqb q.s id) S
    (cond (has q.asked D && eqb q.d id) D
    (cond (has q.asked E && eqb q.e id) E 0))

-- the final of a service, if there was one
pub record First : Type 0 where
  pub given : Bool
  pub charge : Charge

pub record Known : Type 0 where
  pub phase : ℕ
  pub pending : Requests
  pub by_d : First
  pub by_e : First

abbrev pub first_final : Known → ℕ → First
first_final k s = cond (eqb s D) k.by_d k.by_e

-- ---- what a charge says: 05 00, free, a subtotal, a total, a list of rates or a special arrangement

abbrev pub is_not_available : Charge → Bool
is_not_available c = eqb c.figure.kind 0

abbrev pub is_free : Charge → Bool
is_free c = eqb c.figure.kind 1

abbrev pub is_subtotal : Charge → Bool
is_subtotal c = eqb c.figure.total 0

abbrev pub is_total : Charge → Bool
is_total c = eqb c.figure.total 1

abbrev pub is_list_or_special : Charge → Bool
is_list_or_special c = eqb c.figure.kind 4 || eqb c.figure.kind 5

-- ---- component outcomes, first that fits

-- a final: 22 if its service has none yet; 28 if the same; else 29
abbrev pub judge_final : First → ℕ → Charge → Outcome
judge_final first s c = cond first.given (cond (same_of first.charge c) (outcome 28 s) (outcome 29 s)) (outcome 22 s)

-- D subtotal in Active, D free in Establishment or Active
abbrev pub runs : ℕ → ℕ → Charge → Bool
runs phase s c =
    eqb s D && cond (is_free c) (eqb phase Establishment || eqb phase Active) (is_subtotal c && eqb phase Active)

-- any E figure in Clearing, D total or D free in Clearing
abbrev pub closes : ℕ → ℕ → Charge → Bool
closes phase s c = eqb phase Clearing && (eqb s E || (is_free c || is_total c))

-- S: 20; 21; a final; others: 27
abbrev pub judge_figure : Known → ℕ → Charge → Outcome
judge_figure k s c =
    cond (eqb s S) (outcome 20 s)
    (cond (runs k.phase s c) (outcome 21 s)
    (cond (closes k.phase s c) (judge_final (first_final k s) s c) (outcome 27 s)))

-- invoke 30: 32; the service's request pending: 26; not available: 23
abbrev pub judge_invoke : Known → Record → Outcome
judge_invoke k c =
    cond (eqb c.front.operation 30) (no_service 32)
    (cond (has k.pending.asked (service_of c.front.operation)) (outcome 26 (service_of c.front.operation))
    (cond (is_not_available c.charge) (outcome 23 (service_of c.front.operation))
    (judge_figure k (service_of c.front.operation) c.charge)))

-- a result fits S if it is a list or a special arrangement, D and E if it is NULL
abbrev pub fits : ℕ → Charge → Bool
fits s c = cond (eqb s S) (is_list_or_special c) (is_not_available c)

-- return result, s the service whose pending request has its identifier: 30 if none has; 24 if it fits; else 31
abbrev pub judge_result : ℕ → Charge → Outcome
judge_result s c = cond (eqb s 0) (no_service 30) (cond (fits s c) (outcome 24 s) (outcome 31 s))

-- return error or reject: 25 on a pending request's identifier, else 30
abbrev pub judge_failure : ℕ → Outcome
judge_failure s = cond (eqb s 0) (no_service 30) (outcome 25 s)

-- frames: 1 invoke, 2 return result, 3 return error, 4 reject; a reject with NULL in place of an identifier is 30 too
abbrev pub judge_frame : Known → Record → Outcome
judge_frame k c =
    cond (eqb c.front.frame 1) (judge_invoke k c)
    (cond (eqb c.front.frame 2) (judge_result (holder_of k.pending c.front.id) c.charge)
    (cond (eqb c.front.unnamed 1) (no_service 30) (judge_failure (holder_of k.pending c.front.id))))

-- a component received in Suspended: 27, ahead of every other outcome; its service is an invoke's, and none for operation 30
abbrev pub invoke_service : Front → ℕ
invoke_service f = cond (eqb f.frame 1 && not (eqb f.operation 30)) (service_of f.operation) 0

unfoldable pub judge_record : Known → Record → Outcome
judge_record k c = cond (eqb k.phase Suspended) (outcome 27 (invoke_service c.front)) (judge_frame k c)

-- a decoding refusal is the event's, in Suspended too
abbrev pub judge_answer : Known → Answer → Outcome
judge_answer k r = cond (eqb r.number 0) (judge_record k r.value) (no_service r.number)

-- ---- the outcome of any event: 14 before 13 and before decoding; a phase event that is not refused has 0

unfoldable pub judge : Known → Event → List ℕ → Outcome
judge k e o =
    cond (allowed e.kind k.phase)
    (cond (eqb e.kind Component) (judge_answer k (read_of o))
    (cond (eqb e.kind Setup && clashes e) (no_service 13) (no_service 0)))
    (no_service 14)

-- ---- the charge of a component

abbrev pub charge_in : List ℕ → Charge
charge_in o = (read_of o).value.charge

-- ---- what an outcome was

-- it was n; it was the service's n
abbrev pub was : ℕ → Outcome → Bool
was n r = eqb r.number n

abbrev pub its : ℕ → ℕ → Outcome → Bool
its s n r = eqb r.number n && eqb r.service s

-- it was the service's 24 or 25
abbrev pub settles : ℕ → Outcome → Bool
settles s r = its s 24 r || its s 25 r
