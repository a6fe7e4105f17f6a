-- What a host does that keeps an account: it hands the step each event of a list in turn.
use Rattle.std.specs.Prelude.{ℕ, ◌-◌, List, [], ◌∷◌, cond, eqb}
use Rattle.phases.specs.declared.Outcome.{Outcome}
use Rattle.phases.specs.Phases.{Given, no_service}
use Rattle.account.specs.declared.Account.{Account}
use Rattle.account.specs.Step.{stepped_of}

-- the account after them
unfoldable pub replayed : Account → List Given → Account
replayed a [] = a
replayed a (g ∷ l) = replayed (stepped_of a g.event g.octets).account l

-- the outcome that it is answered of event k, from 1; zero for a number that is no event's
unfoldable pub replied_at : Account → List Given → ℕ → Outcome
replied_at a [] k = no_service 0
replied_at a (g ∷ l) k = cond (eqb k 1) (stepped_of a g.event g.octets).outcome (replied_at (stepped_of a g.event g.octets).account l (k - 1))
