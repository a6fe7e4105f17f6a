-- The rules of one event by value, and what is kept of the events seen. d: whether the event is an invoke of D.
use Rattle.std.specs.Prelude.{ℕ, Bool, not, ◌&&◌, ◌||◌, cond, eqb}
use Rattle.types.specs.declared.Charge.{Charge}
use Rattle.phases.specs.declared.Outcome.{Outcome}
use Rattle.phases.specs.Phases.{Active, Clearing}
use Rattle.outcomes.specs.Outcome.{is_refusal, was}
use Rattle.events.specs.Earliest.{or_else}
use Rattle.fault_rules.specs.declared.FaultAnswer.{FaultAnswer}
use Rattle.fault_rules.specs.declared.Seen.{Seen}
use Rattle.fault_rules.specs.Figures.{amount_kind, is_amount, is_counted, is_zero, fault_answer}

-- 1: a subtotal in Active, a total in Clearing
abbrev pub placed_by : ℕ → ℕ → Bool
placed_by phase total = (eqb total 0 && eqb phase Active) || (eqb total 1 && eqb phase Clearing)

abbrev pub misplaced_by : Bool → ℕ → ℕ → ℕ → Bool
misplaced_by d phase kind total = (d && amount_kind kind) && not (placed_by phase total)

-- 2 is of counted D money
abbrev pub money_by : Bool → ℕ → Outcome → Bool
money_by d kind r = d && (eqb kind 2 && is_counted r)

-- 3: free: whether a free mark of D was counted
abbrev pub charges_by : Bool → Charge → Bool → Bool
charges_by d c free = (d && is_amount c) && (not (is_zero c) && free)

-- the first rule that the event breaks, or 0; falls: whether it breaks the second
abbrev pub breaks_by : Bool → ℕ → Charge → Outcome → Bool → Bool → ℕ
breaks_by d phase c r free falls =
    cond (misplaced_by d phase c.figure.kind c.figure.total) 1 (cond falls 2 (cond (charges_by d c free) 3 (cond (was 29 r) 4 0)))

-- ---- what is kept of the events seen

-- 1 once a free mark (kind 1) of D was counted
abbrev pub free_next : ℕ → Bool → ℕ → Outcome → ℕ
free_next free d kind r = cond (d && (eqb kind 1 && is_counted r)) 1 free

-- event n breaks a rule, or none (0)
abbrev pub seen_next : Seen → Bool → ℕ → Outcome → ℕ → ℕ → Seen
seen_next s d kind r rule n = record {
  free = free_next s.free d kind r;
  refused = or_else s.refused (is_refusal r.number) n;
  event = cond (eqb s.rule 0) (or_else 0 (not (eqb rule 0)) n) s.event;
  rule = cond (eqb s.rule 0) rule s.rule;
}

-- a refused event is 34, before every rule
abbrev pub concluded : Seen → FaultAnswer
concluded s = cond (eqb s.refused 0) (fault_answer 0 s.rule s.event) (fault_answer 34 0 s.refused)
