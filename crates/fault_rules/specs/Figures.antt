-- What the rules of request 11 look at: D's invokes, amounts, what is counted and what is zero; and the form of the answer.
use Rattle.std.specs.Prelude.{ℕ, Bool, not, ◌&&◌, ◌||◌, cond, eqb}
use Rattle.types.specs.declared.Charge.{Charge}
use Rattle.types.specs.declared.Entries.{Entries}
use Rattle.types.specs.declared.Front.{Front}
use Rattle.types.specs.Entries.{unit_at}
use Rattle.phases.specs.declared.Outcome.{Outcome}
use Rattle.phases.specs.Phases.{Component}
use Rattle.outcomes.specs.Outcome.{was}
use Rattle.octets.specs.Each.{each}
use Rattle.same_final.specs.Same.{up_to}
use Rattle.events.specs.Earliest.{within}
use Rattle.fault_rules.specs.declared.FaultAnswer.{FaultAnswer}

-- a component that is an invoke 33 or 34
abbrev pub invokes_d : ℕ → Front → Bool
invokes_d kind f = eqb kind Component && (eqb f.frame 1 && within 33 f.operation 34)

-- currency (kind 2) or units (3)
abbrev pub amount_kind : ℕ → Bool
amount_kind kind = eqb kind 2 || eqb kind 3

abbrev pub is_amount : Charge → Bool
is_amount c = amount_kind c.figure.kind

-- counted: outcome 21 or 22
abbrev pub is_counted : Outcome → Bool
is_counted r = was 21 r || was 22 r

-- an entry that is not available has no number
abbrev pub nothing_by : ℕ → ℕ → Bool
nothing_by known number = not (eqb known 1) || eqb number 0

-- units: every number zero
abbrev pub zero_units : Entries → ℕ → Bool
zero_units e count = each (up_to 32 count) (λ i. nothing_by (unit_at e i).known (unit_at e i).number)

-- of an amount
abbrev pub is_zero : Charge → Bool
is_zero c = cond (eqb c.figure.kind 2) (eqb c.figure.money.number 0) (zero_units c.entries c.figure.count)

-- a number, a rule and an event
abbrev pub fault_answer : ℕ → ℕ → ℕ → FaultAnswer
fault_answer n r e = record { number = n; rule = r; event = e }
