-- The services that an outcome was reported for.
use Rattle.std.specs.Prelude.{ℕ, List}
use Rattle.types.specs.Charges.{flag}
use Rattle.requests.specs.declared.Services.{Services}
use Rattle.phases.specs.Phases.{S, D, E}
use Rattle.outcomes.specs.Outcome.{its}
use Rattle.account.specs.History.{Judged, any}

abbrev pub told_set : ℕ → List Judged → Services
told_set n h = record {
  s = flag (any (λ j. its S n j.outcome) h);
  d = flag (any (λ j. its D n j.outcome) h);
  e = flag (any (λ j. its E n j.outcome) h);
}
