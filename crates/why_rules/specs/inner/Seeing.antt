-- What is kept of the events seen, and the reason by it.
use Rattle.std.specs.Prelude.{ℕ, List, Bool, cond, eqb}
use Rattle.phases.specs.declared.Outcome.{Outcome}
use Rattle.phases.specs.Phases.{Ended, D, E}
use Rattle.outcomes.specs.Outcome.{was, its}
use Rattle.account.specs.History.{Judged}
use Rattle.events.specs.Earliest.{or_else, earliest}
use Rattle.why_rules.specs.declared.Reason.{Reason}
use Rattle.why_rules.specs.declared.Seen.{Seen}
use Rattle.why_rules.specs.Reasons.{passed_over, told_absent, unread, because, if_found}

-- the earliest event of each sort
abbrev pub seen_by : List Judged → Seen
seen_by h = record {
  efinal = earliest (λ j. its E 22 j.outcome) h;
  dfinal = earliest (λ j. its D 22 j.outcome) h;
  figure = earliest (λ j. passed_over j.outcome j.octets) h;
  absent = earliest (λ j. told_absent j.outcome) h;
  running = earliest (λ j. was 21 j.outcome) h;
  refused = earliest (λ j. unread j.outcome) h;
}

-- the reason, by the phase and what was seen: `explained` of the history that was gone over
abbrev pub concluded : ℕ → Seen → Reason
concluded phase s =
    cond (eqb phase Ended)
    (if_found 2 s.efinal
    (if_found 2 s.dfinal
    (if_found 3 s.figure
    (if_found 4 s.absent
    (if_found 5 s.running
    (if_found 6 s.refused
    (because 7 0)))))))
    (because 1 0)

abbrev pub none_seen : Seen
none_seen = record { efinal = 0; dfinal = 0; figure = 0; absent = 0; running = 0; refused = 0 }

-- event n has an outcome; figure: whether it is a figure that was passed over
abbrev pub seen_next : Seen → Outcome → Bool → ℕ → Seen
seen_next s r figure n = record {
  efinal = or_else s.efinal (its E 22 r) n;
  dfinal = or_else s.dfinal (its D 22 r) n;
  figure = or_else s.figure figure n;
  absent = or_else s.absent (told_absent r) n;
  running = or_else s.running (was 21 r) n;
  refused = or_else s.refused (unread r) n;
}
