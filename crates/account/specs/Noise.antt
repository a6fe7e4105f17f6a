-- Events with no effect, and lists without some of them (document 02, request 12).
use Rattle.std.specs.Prelude.{ℕ, List, [], ◌∷◌, map, Bool, true, false, ◌&&◌, ◌||◌}
use Rattle.types.specs.declared.Charge.{Charge}
use Rattle.phases.specs.declared.Outcome.{Outcome}
use Rattle.account.specs.declared.Closing.{Closing}
use Rattle.account.specs.declared.Marks.{Marks}
use Rattle.coding.specs.Reader.{among}
use Rattle.outcomes.specs.Outcome.{is_refusal, Known, judge}
use Rattle.phases.specs.Phases.{Given}
use Rattle.account.specs.History.{known, marks, current_rate, running, closing, judged}

-- refused, or one of these outcomes
abbrev pub noise : List ℕ
noise = 26 ∷ 27 ∷ 28 ∷ 30 ∷ 31 ∷ 32 ∷ []

unfoldable pub is_noise : Outcome → Bool
is_noise r = is_refusal r.number || among r.number noise

-- ---- a part of a list, by a choice for each place: false leaves its event out, and past the choices nothing is left out

abbrev pub chosen : {A : Type 0} → List Bool → List A → List A
chosen [] l = l
chosen (b ∷ c) [] = []
chosen (true ∷ c) (x ∷ l) = x ∷ chosen c l
chosen (false ∷ c) (x ∷ l) = chosen c l

-- whatever is left out was noise
abbrev pub only_noise : List Bool → List Outcome → Bool
only_noise [] l = true
only_noise (b ∷ c) [] = true
only_noise (true ∷ c) (r ∷ l) = only_noise c l
only_noise (false ∷ c) (r ∷ l) = is_noise r && only_noise c l

-- ---- all that the rules pick out of a history: the phase, the pending requests and the finals, the marks, the rate, the running and the closing figure

pub record Standing : Type 0 where
  pub known : Known
  pub marks : Marks
  pub rate : Charge
  pub running : Charge
  pub closing : Closing

abbrev pub standing : List Given → Standing
standing h = record {
  known = known (judged h);
  marks = marks (judged h);
  rate = current_rate (judged h);
  running = running (judged h);
  closing = closing (judged h);
}

-- an event, its outcome, and all that is there after it
pub record Past : Type 0 where
  pub given : Given
  pub outcome : Outcome
  pub after : Standing

-- of each event of a history, the latest first
abbrev pub past : List Given → List Past
past [] = []
past (g ∷ h) = record { given = g; outcome = judge (known (judged h)) g.event g.octets; after = standing (g ∷ h) } ∷ past h

abbrev pub outcomes : List Given → List Outcome
outcomes h = map (λ (t : Past). t.outcome) (past h)
