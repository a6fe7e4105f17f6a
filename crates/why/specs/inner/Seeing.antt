-- Going over the list once: the account, and what is kept of the events seen.
use Rattle.std.specs.Prelude.{ℕ, List}
use Rattle.phases.specs.declared.Event.{Event}
use Rattle.account.specs.History.{Judged, account_by}
use Rattle.account.specs.Step.{stepped_of}
use Rattle.why_rules.specs.Reasons.{passed_over}
use Rattle.why_rules.specs.inner.Seeing.{seen_by, seen_next}
use Rattle.why.specs.declared.State.{State}

unfoldable pub turn_of : State → Event → List ℕ → ℕ → State
turn_of t e o n = record {
  account = (stepped_of t.account e o).account;
  seen = seen_next t.seen (stepped_of t.account e o).outcome (passed_over (stepped_of t.account e o).outcome o) n;
}

-- what stands for a history
abbrev pub state_by : List Judged → State
state_by h = record { account = account_by h; seen = seen_by h }
