-- Whether the exchange kept the rules of charging, from a call's event list (document 02, request 11). A history has the latest event first.
use Rattle.std.specs.Prelude.{ℕ, ◌+◌, List, [], ◌∷◌, reverse, Bool, false, not, ◌&&◌, ◌||◌, cond, length, eqb, ltb}
use Rattle.types.specs.declared.Charge.{Charge}
use Rattle.types.specs.declared.Currency.{Currency}
use Rattle.types.specs.Frames.{read_of}
use Rattle.phases.specs.Phases.{Active, Clearing, Given}
use Rattle.outcomes.specs.Outcome.{is_refusal, is_free, is_subtotal, is_total, charge_in, was}
use Rattle.amounts.specs.Currency.{equal_currency}
use Rattle.types.specs.Thousandths.{thousandths}
use Rattle.account.specs.History.{Judged, any, judged, phase}
use Rattle.events.specs.Events.{adds_up, events_of}
use Rattle.events.specs.Earliest.{earliest}
use Rattle.fault_rules.specs.declared.FaultAnswer.{FaultAnswer}
use Rattle.fault_rules.specs.Figures.{invokes_d, is_amount, is_counted, is_zero, fault_answer}

-- ---- what an event is

abbrev pub charge_by : Judged → Charge
charge_by j = charge_in j.octets

-- of D: a component that is an invoke 33 or 34
abbrev pub is_d : Judged → Bool
is_d j = invokes_d j.event.kind (read_of j.octets).value.front

abbrev pub is_money : Charge → Bool
is_money c = eqb c.figure.kind 2

-- ---- the rules, each of an event after a history

-- 1: D amounts, currency or units, counted or not, are subtotals in Active, totals in Clearing and absent elsewhere
abbrev pub misplaced : Judged → List Judged → Bool
misplaced j h =
    (is_d j && is_amount (charge_by j))
    && not ((is_subtotal (charge_by j) && eqb (phase h) Active) || (is_total (charge_by j) && eqb (phase h) Clearing))

-- 2: no counted D amount is below the last counted one in equal currency
abbrev pub is_counted_money : Judged → Bool
is_counted_money j = is_d j && (is_money (charge_by j) && is_counted j.outcome)

abbrev pub below_last : Currency → ℕ → List Judged → Bool
below_last c t [] = false
below_last c t (j ∷ h) =
    cond (is_counted_money j && equal_currency (charge_by j).figure.money.currency c)
    (ltb t (thousandths (charge_by j).figure.money))
    (below_last c t h)

abbrev pub falls : Judged → List Judged → Bool
falls j h = is_counted_money j && below_last (charge_by j).figure.money.currency (thousandths (charge_by j).figure.money) h

-- 3: after a counted D free mark no D amount but zero
abbrev pub is_counted_free : Judged → Bool
is_counted_free j = is_d j && (is_free (charge_by j) && is_counted j.outcome)

abbrev pub charges : Judged → List Judged → Bool
charges j h = (is_d j && is_amount (charge_by j)) && (not (is_zero (charge_by j)) && any is_counted_free h)

-- 4: no outcome 29
abbrev pub differs : Judged → Bool
differs j = was 29 j.outcome

-- the first that an event breaks, or 0
abbrev pub breaks : Judged → List Judged → ℕ
breaks j h = cond (misplaced j h) 1 (cond (falls j h) 2 (cond (charges j h) 3 (cond (differs j) 4 0)))

-- ---- the answer

abbrev pub all_kept : FaultAnswer
all_kept = fault_answer 0 0 0

-- the first event that is refused, or 0
abbrev pub refused_in : List Judged → ℕ
refused_in h = earliest (λ j. is_refusal j.outcome.number) h

-- the first event that breaks a rule, and the rule
abbrev pub broken_in : List Judged → FaultAnswer
broken_in [] = all_kept
broken_in (j ∷ h) = cond (eqb (broken_in h).rule 0) (cond (eqb (breaks j h) 0) all_kept (fault_answer 0 (breaks j h) (length h + 1))) (broken_in h)

-- an event refused in the list is 34 with its number, before every rule
unfoldable pub fault_in : List Judged → FaultAnswer
fault_in h = cond (eqb (refused_in h) 0) (broken_in h) (fault_answer 34 0 (refused_in h))

-- of a list of events as they came
unfoldable pub fault_of : List Given → FaultAnswer
fault_of l = fault_in (judged (reverse l))

-- of a list in slices; slices that are no list are 48
unfoldable pub fault_at : List ℕ → List ℕ → FaultAnswer
fault_at rows octets = cond (adds_up rows (length octets)) (fault_of (events_of rows octets)) (fault_answer 48 0 0)
