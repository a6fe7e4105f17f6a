-- What a scan of the first events of a list in slices knows, and finds.
use Rattle.std.specs.Prelude.{ℕ, suc, ◌/◌, ◌≤◌, ◌<◌, ◌≡◌, Bool, true, false, List, length}
use Rattle.phases.specs.declared.Outcome.{Outcome}
use Rattle.outcomes.specs.Outcome.{settles}
use Rattle.account.specs.History.{Judged, any, named, judged, phase}
use Rattle.events.specs.Events.{adds_up}
use Rattle.events.specs.inner.Prefix.{place_at, before}
use Rattle.plain_rules.specs.declared.Ask.{Ask}
use Rattle.plain_rules.specs.inner.Deciding.{request_of}

-- the slices are an event list, of which the first k are gone over
pub record Scan (rows octets : List ℕ) (k : ℕ) : Type 0 where
  pub list : adds_up rows (length octets) ≡ true
  pub some : k ≤ length rows / 6

-- what a scan for the first of them whose outcome passes a test knows before event i, whose octets begin at a place, in a phase
pub record Here (f : Outcome → Bool) (rows octets : List ℕ) (k i at p : ℕ) : Type 0 where
  pub row : i ≤ k
  pub place : at ≡ place_at rows i
  pub met : p ≡ phase (judged (before rows octets i))
  pub none : any (λ j. f j.outcome) (judged (before rows octets i)) ≡ false

-- the first of k events, counted from 0, that passes a test of events with their outcomes; k if there is none
pub record FirstAt (t : Judged → Bool) (rows octets : List ℕ) (k r : ℕ) : Type 0 where
  pub inside : r ≤ k
  pub none : any t (judged (before rows octets r)) ≡ false
  pub there : r < k → any t (judged (before rows octets (suc r))) ≡ true

-- what the Setup named for the service is known; for finals the place of its answer too, else the place is no event's
pub record Requested (finals : Bool) (rows octets : List ℕ) (k s : ℕ) (q : Ask) (place : ℕ) : Type 0 where
  pub names : named s (judged (before rows octets k)) ≡ request_of q
  pub answered : finals ≡ true → (2 ≤ s) × FirstAt (λ j. settles s j.outcome) rows octets k place
  pub unanswered : finals ≡ false → k ≤ place
