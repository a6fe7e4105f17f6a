-- The outcome of a component, by the numbers that inner functions are handed. `resolves` (outcomes/proofs/Claims.antt) ties it to `judge_record`.
use Rattle.std.specs.Prelude.{ℕ, Bool, ◌&&◌, ◌||◌, cond, eqb}
use Rattle.types.specs.declared.Charge.{Charge}
use Rattle.types.specs.declared.Front.{Front}
use Rattle.requests.specs.Sets.{has}
use Rattle.phases.specs.declared.Outcome.{Outcome}
use Rattle.phases.specs.Phases.{Establishment, Active, Clearing, Suspended, S, D, E, outcome, no_service}
use Rattle.outcomes.specs.Outcome.{service_of, Requests, holder_of, judge_failure, invoke_service, Known, first_final, judge_final, was}

-- ---- the outcome of a component but for comparing finals: one that is claimed is 22

abbrev pub runs_by : ℕ → ℕ → ℕ → ℕ → Bool
runs_by phase s kind total =
    eqb s D && cond (eqb kind 1) (eqb phase Establishment || eqb phase Active) (eqb total 0 && eqb phase Active)

abbrev pub closes_by : ℕ → ℕ → ℕ → ℕ → Bool
closes_by phase s kind total = eqb phase Clearing && (eqb s E || (eqb kind 1 || eqb total 1))

abbrev pub claim_figure : ℕ → ℕ → ℕ → ℕ → Outcome
claim_figure phase s kind total =
    cond (eqb s S) (outcome 20 s)
    (cond (runs_by phase s kind total) (outcome 21 s)
    (cond (closes_by phase s kind total) (outcome 22 s) (outcome 27 s)))

abbrev pub claim_invoke : ℕ → Requests → ℕ → ℕ → ℕ → Outcome
claim_invoke phase q operation kind total =
    cond (eqb operation 30) (no_service 32)
    (cond (has q.asked (service_of operation)) (outcome 26 (service_of operation))
    (cond (eqb kind 0) (outcome 23 (service_of operation))
    (claim_figure phase (service_of operation) kind total)))

abbrev pub fits_by : ℕ → ℕ → Bool
fits_by s kind = cond (eqb s S) (eqb kind 4 || eqb kind 5) (eqb kind 0)

abbrev pub claim_result : ℕ → ℕ → Outcome
claim_result s kind = cond (eqb s 0) (no_service 30) (cond (fits_by s kind) (outcome 24 s) (outcome 31 s))

abbrev pub claim_frame : ℕ → Requests → Front → ℕ → ℕ → Outcome
claim_frame phase q f kind total =
    cond (eqb f.frame 1) (claim_invoke phase q f.operation kind total)
    (cond (eqb f.frame 2) (claim_result (holder_of q f.id) kind)
    (cond (eqb f.unnamed 1) (no_service 30) (judge_failure (holder_of q f.id))))

unfoldable pub claim_record : ℕ → Requests → Front → ℕ → ℕ → Outcome
claim_record phase q f kind total = cond (eqb phase Suspended) (outcome 27 (invoke_service f)) (claim_frame phase q f kind total)

-- ---- a final that is claimed is compared with the first one

abbrev pub compared : Known → Outcome → Charge → Outcome
compared k r c = cond (was 22 r) (judge_final (first_final k r.service) r.service c) r
