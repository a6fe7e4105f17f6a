-- Going over the list once: what is kept of the events seen.
use Rattle.std.specs.Prelude.{ℕ, List, Bool, ◌&&◌, eqb, ltb}
use Rattle.types.specs.declared.Charge.{Charge}
use Rattle.types.specs.declared.Record.{Record}
use Rattle.types.specs.Charges.{flag}
use Rattle.types.specs.Frames.{read_of}
use Rattle.phases.specs.declared.Event.{Event}
use Rattle.phases.specs.declared.Outcome.{Outcome}
use Rattle.types.specs.Thousandths.{thousandths}
use Rattle.account.specs.History.{Judged, any, account_by}
use Rattle.account.specs.declared.Stepped.{Stepped}
use Rattle.account.specs.Step.{stepped_of}
use Rattle.fault_rules.specs.declared.Seen.{Seen}
use Rattle.fault_rules.specs.Figures.{invokes_d}
use Rattle.fault_rules.specs.inner.Breaking.{money_by, breaks_by, seen_next}
use Rattle.fault.specs.declared.Last.{Last}
use Rattle.fault.specs.declared.Progress.{Progress}
use Rattle.fault.specs.Rules.{is_counted_free, refused_in, broken_in}
use Rattle.fault.specs.inner.Going.{latest_next, latest_by, other_next, other_by, short_by}

-- rule 2 by what is found
abbrev pub falls_by : Bool → Charge → Outcome → Last → Bool
falls_by d c r l = money_by d c.figure.kind r && (eqb l.found 1 && ltb (thousandths c.figure.money) l.amount)

-- what is seen of event n, where the last amount is found
abbrev pub seen_on : Seen → ℕ → Last → Bool → Charge → Outcome → ℕ → Seen
seen_on s phase l d c r n = seen_next s d c.figure.kind r (breaks_by d phase c r (eqb s.free 1) (falls_by d c r l)) n

-- after a history comes event n, a record (of zeros for an event that is none), taken by a step
abbrev pub next_by : Progress → List Judged → Event → Record → ℕ → Stepped → Progress
next_by t h e v n w = record {
  account = w.account;
  seen =
      seen_on t.seen t.account.status.phase (short_by t.latest t.other v.charge.figure.money.currency h)
      (invokes_d e.kind v.front) v.charge w.outcome n;
  latest = latest_next t.latest (invokes_d e.kind v.front) v.charge.figure.kind v.charge.figure.money w.outcome;
  other = other_next t.other t.latest (invokes_d e.kind v.front) v.charge.figure.kind v.charge.figure.money w.outcome;
}

unfoldable pub next_of : Progress → List Judged → Event → List ℕ → ℕ → Progress
next_of t h e o n = next_by t h e (read_of o).value n (stepped_of t.account e o)

-- what stands for a history
abbrev pub seen_by : List Judged → Seen
seen_by h = record { free = flag (any is_counted_free h); refused = refused_in h; event = (broken_in h).event; rule = (broken_in h).rule }

abbrev pub progress_by : List Judged → Progress
progress_by h = record { account = account_by h; seen = seen_by h; latest = latest_by h; other = other_by h }
