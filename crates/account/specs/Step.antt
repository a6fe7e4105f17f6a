-- What the step does to an account, whatever its values are, and what is read off it.
use Rattle.std.specs.Prelude.{ℕ, List, cond, eqb, is_some}
use Rattle.types.specs.declared.Charge.{Charge}
use Rattle.types.specs.Arguments.{no_charge}
use Rattle.phases.specs.declared.Event.{Event}
use Rattle.phases.specs.declared.Outcome.{Outcome}
use Rattle.phases.specs.declared.Status.{Status}
use Rattle.account.specs.declared.Account.{Account}
use Rattle.account.specs.declared.Closing.{Closing}
use Rattle.account.specs.declared.Marks.{Marks}
use Rattle.account.specs.declared.Stepped.{Stepped}
use Rattle.account.specs.declared.Change.{Change}
use Rattle.phases.specs.Phases.{Ended, D, E}
use Rattle.outcomes.specs.Outcome.{Known, judge, charge_in}
use Rattle.outcomes.specs.Status.{is_given, first_figure, requests_of, status_after, place_of, is_at}
use Rattle.outcomes.specs.declared.Place.TheVariants.{Rate, Running, FinalOfD, FinalOfE}
use Rattle.account.specs.History.{no_closing, stepped, Calls}

-- ---- what an account knows

abbrev pub known_of : Account → Known
known_of a = record {
  phase = a.status.phase;
  pending = requests_of a.status;
  by_d = first_figure a.dfinal;
  by_e = first_figure a.efinal;
}

-- ---- what an event changes: the status, and one figure at most

-- a charge that is kept nowhere is not handed over
abbrev pub change_by : Outcome → Status → Charge → Change
change_by r t c = record { outcome = r; place = place_of r; status = t; charge = cond (is_some (place_of r)) c no_charge }

unfoldable pub change_of : Account → Event → List ℕ → Change
change_of a e o = change_by (judge (known_of a) e o) (status_after a.status e (judge (known_of a) e o)) (charge_in o)

-- ---- the account with a change, and the step of a whole account

abbrev pub put : Account → Change → Account
put a w = record {
  status = w.status;
  rate = cond (is_at Rate w.place) w.charge a.rate;
  running = cond (is_at Running w.place) w.charge a.running;
  dfinal = cond (is_at FinalOfD w.place) w.charge a.dfinal;
  efinal = cond (is_at FinalOfE w.place) w.charge a.efinal;
}

abbrev pub changed : Account → Change → Stepped
changed a w = stepped w.outcome (put a w)

unfoldable pub stepped_of : Account → Event → List ℕ → Stepped
stepped_of a e o = changed a (change_of a e o)

-- ---- reading off

abbrev pub closing_of : Account → Closing
closing_of a =
    cond (eqb a.status.phase Ended)
    (cond (is_given a.efinal) (record { service = E; value = a.efinal })
    (cond (is_given a.dfinal) (record { service = D; value = a.dfinal }) no_closing))
    no_closing

abbrev pub marks_of : Account → Marks
marks_of a = record { absent = a.status.absent; conflict = a.status.conflict }

-- what a host calls
abbrev pub ours : Calls
ours = record { step = stepped_of; rate = λ a. a.rate; running = λ a. a.running; closing = closing_of; marks = marks_of }
