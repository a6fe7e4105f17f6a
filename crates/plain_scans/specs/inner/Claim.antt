-- What the scans test: the outcome that a component would have in a phase if one service's request alone were pending, finals not compared.
use Rattle.std.specs.Prelude.{ℕ, ◌≡◌, ◌&&◌, cond, List, eqb}
use Rattle.types.specs.declared.Answer.{Answer}
use Rattle.types.specs.Frames.{read_of}
use Rattle.phases.specs.declared.Event.{Event}
use Rattle.phases.specs.declared.Outcome.{Outcome}
use Rattle.phases.specs.Phases.{Component, allowed, no_service, Request, request_for}
use Rattle.outcomes.specs.Outcome.{Requests}
use Rattle.outcomes.specs.inner.ByNumber.{claim_record}
use Rattle.account.specs.History.{Judged, named}

-- ---- requests

-- those of three services
abbrev pub three : Request → Request → Request → Requests
three a b c = record { asked = record { s = a.mark; d = b.mark; e = c.mark }; s = a.id; d = b.id; e = c.id }

-- an event is the accepted Setup of a history, or asks for nothing where there is none
pub record Asks (h : List Judged) (e : Event) : Type 0 where
  pub all : (s : ℕ) → named s h ≡ request_for s e

-- ---- the outcome of an event but for comparing finals; 14 for all that is no component heard

abbrev pub claim_answer : ℕ → Requests → Answer → Outcome
claim_answer phase q r =
    cond (eqb r.number 0)
    (claim_record phase q r.value.front r.value.charge.figure.kind r.value.charge.figure.total)
    (no_service r.number)

unfoldable pub claim_of : ℕ → Requests → ℕ → List ℕ → Outcome
claim_of phase q kind o = cond (eqb kind Component && allowed kind phase) (claim_answer phase q (read_of o)) (no_service 14)
