-- The events behind the exports of one event each, and what such an export promises.
use Rattle.std.specs.Prelude.{ℕ, ◌≡◌, List}
use Rattle.requests.specs.declared.Services.{Services}
use Rattle.requests.specs.declared.Three.{Three}
use Rattle.requests.specs.Sets.{empty_set}
use Rattle.account.specs.declared.Account.{Account}
use Rattle.phases.specs.declared.Event.{Event}
use Rattle.account.specs.declared.Stepped.{Stepped}
use Rattle.phases.specs.Phases.{Setup, Given, event}
use Rattle.account.specs.History.{judged, account_by, stepped_by}
use Rattle.account.specs.Step.{stepped_of}

-- an event that has nothing but its kind
abbrev pub plain_event : ℕ → Event
plain_event k = record { kind = k; asked = empty_set; s = 0; d = 0; e = 0 }

-- a Setup that asks for services by these identifiers
abbrev pub setup_event : Services → Three → Event
setup_event asked ids = record { kind = Setup; asked = asked; s = ids.s; d = ids.d; e = ids.e }

-- the account took the event with these octets: the step's one answer, and over every list of events the answer of the rules
abbrev pub Took : Account → Event → List ℕ → Stepped → Type 0
Took a e o r = (r ≡ stepped_of a e o) × ((h : List Given) → a ≡ account_by (judged h) → r ≡ stepped_by (event e o) h)
