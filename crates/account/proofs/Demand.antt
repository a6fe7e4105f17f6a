-- The step and the rules over the list agree. None of this looks at code or into the reading of octets.
use Rattle.std.proofs.Common.{None}
use Rattle.prelude.proofs.Prelude.{ℕ, ◌≡◌, refl, sym, ◌∙◌, ap, List, [], ◌∷◌, ◌++◌, Bool, true, false, ◌&&◌, ◌||◌, and-false, cond, eqb, eqb-true}
use Rattle.types.specs.{declared.Charge.Charge, Charges.flag, Arguments.no_charge}
use Rattle.requests.specs.Sets.{with}
use Rattle.phases.{specs.declared.Event.Event, specs.declared.Outcome.Outcome, specs.declared.Status.Status, specs.Phases.Idle, specs.Phases.Ended, specs.Phases.Setup, specs.Phases.Released}
use Rattle.phases.{specs.Phases.Component, specs.Phases.S, specs.Phases.D, specs.Phases.E, specs.Phases.outcome, specs.Phases.no_service, specs.Phases.Request, specs.Phases.no_request}
use Rattle.phases.{specs.Phases.clashes, specs.Phases.allowed, specs.Phases.Given, proofs.Choice.if_same, proofs.Choice.by_number, proofs.Choice.never}
use Rattle.prelude.proofs.Ways.{by_cases}
use Rattle.phases.{proofs.Choice.first_of, proofs.Transitions.to_idle, proofs.Transitions.setup_idle, proofs.Transitions.to_ended, proofs.Transitions.component_stays}
use Rattle.account.specs.declared.Account.{Account}
use Rattle.account.specs.History.{Judged, any, last, phase, has_final, final, no_closing, closing, known, judged, account_by, fresh, stepped_by, Shown, shown, picked}
use Rattle.account.specs.{History.{Calls, Obeys, answers}, Step.{known_of, change_by, put, change_of, stepped_of, closing_of, ours}}
use Rattle.coding.specs.Reader.{among}
use Rattle.outcomes.specs.{Outcome.{is_refusal, judge, charge_in, was, its, settles}, Status.{is_given, noted, status_after}}
use Rattle.outcomes.proofs.{Refusals.{none_of, fails, apart}, Judging.{phased, phased_judge, unsettled_now, ended_judge, keeps, kept_given}}

abbrev told : Event → List ℕ → Outcome → Judged
told e o r = record { event = e; octets = o; outcome = r }

-- ---- a component does to the account what the rules over the list say, whatever its outcome is

mark_or : (b c : Bool) (q : Request) → (cond (b || c) no_request q).mark ≡ cond b 0 (cond c no_request q).mark
mark_or true c q = refl
mark_or false c q = refl

id_or : (b c : Bool) (q : Request) → (cond (b || c) no_request q).id ≡ cond b 0 (cond c no_request q).id
id_or true c q = refl
id_or false c q = refl

flag_or : (b c : Bool) → flag (b || c) ≡ cond b 1 (flag c)
flag_or true c = refl
flag_or false c = refl

set_more : (b : Bool) (s : ℕ) (x y z : Bool) →
    cond b (with (record { s = flag x; d = flag y; e = flag z }) s) (record { s = flag x; d = flag y; e = flag z })
    ≡ record { s = flag ((b && eqb s S) || x); d = flag ((b && eqb s D) || y); e = flag ((b && eqb s E) || z) }
set_more true s x y z = simp flag_or
set_more false s x y z = refl

-- where a figure is kept, by each figure
abbrev pub kept : Account → Status → Outcome → Charge → Account
kept a t r c = record {
  status = t;
  rate = cond (was 20 r || its S 24 r) c a.rate;
  running = cond (was 21 r) c a.running;
  dfinal = cond (its D 22 r) c a.dfinal;
  efinal = cond (its E 22 r) c a.efinal;
}

module _ (a : Account) (t : Status) (c : Charge) where
  placed : (n s : ℕ) → put a (change_by (outcome n s) t c) ≡ kept a t (outcome n s) c
  placed n s =
      by_number n 20 (λ e. rw e) (λ n20. by_number n 21 (λ e. rw e) (λ n21.
      by_number n 22 (λ e. rw e (by_number s 2 (λ f. rw f) (λ s2. by_cases (eqb s 3) (λ s3. rw (s2, s3)) (λ s3. rw (s2, s3))))) (λ n22.
      by_number n 24 (λ e. rw e (by_cases (eqb s 1) (λ s1. rw s1) (λ s1. rw s1))) (λ n24. rw (n20, n21, n22, n24)))))

-- the account after an event with an outcome
abbrev pub after : Account → Event → Charge → Outcome → Account
after a e c r = put a (change_by r (status_after a.status e r) c)

component_stands : (h : List Judged) (e : Event) (o : List ℕ) (r : Outcome) → eqb e.kind Component ≡ true → after (account_by h) e (charge_in o) r ≡ account_by (told e o r ∷ h)
component_stands h e o r q =
    rw (eqb-true e.kind Component q)
    (placed (account_by h) (noted (account_by h).status r) (charge_in o) r.number r.service ∙ simp (component_stays, if_same, mark_or, id_or, set_more))

-- ---- a phase event

refused_stays : (h : List Judged) (e : Event) (o : List ℕ) → account_by (told e o (no_service 14) ∷ h) ≡ account_by h
refused_stays h e o = simp and-false

module _ (h : List Judged) (e : Event) (o : List ℕ) (other : eqb e.kind Component ≡ false) where
  phase_stands : (t u : Bool) → (t ≡ true → eqb e.kind Setup ≡ true → (s : ℕ) → any (λ j. settles s j.outcome) h ≡ false)
      → after (account_by h) e (charge_in o) (phased e.kind t u) ≡ account_by (told e o (phased e.kind t u) ∷ h)
  phase_stands false u none = rw other (sym (refused_stays h e o))
  phase_stands true u none =
      by_cases (eqb e.kind Setup)
      (λ q. by_cases u
      (λ v. rw (other, v, q))
      (λ v. rw (other, v, q, none refl q S, none refl q D, none refl q E)))
      (λ q. rw (other, q))

-- ---- in Idle no request has had its 24 or 25

unsettled : (s : ℕ) (h : List Given) → phase (judged h) ≡ Idle → any (λ j. settles s j.outcome) (judged h) ≡ false
unsettled s [] q = refl
unsettled s (g ∷ h) q =
    let before : phase (judged h) ≡ Idle =
    by_cases (was 0 (judge (known (judged h)) g.event g.octets)) (λ b. to_idle g.event.kind (phase (judged h)) (rw b at q)) (λ b. rw b at q) in
    rw (unsettled_now s (known (judged h)) g.event g.octets before) (unsettled s h before)

-- ---- the account after any event is that of the history with the event

account_stands : (h : List Given) (e : Event) (o : List ℕ)
    → after (account_by (judged h)) e (charge_in o) (judge (known (judged h)) e o) ≡ account_by (told e o (judge (known (judged h)) e o) ∷ judged h)
account_stands h e o =
    by_cases (eqb e.kind Component)
    (component_stands (judged h) e o (judge (known (judged h)) e o))
    (λ q. rw (phased_judge (known (judged h)) e o q)
    (phase_stands (judged h) e o q (allowed e.kind (phase (judged h))) (clashes e) (λ t u s. unsettled s h (setup_idle e.kind (phase (judged h)) t u))))

-- ---- a figure that is kept is never of kind 0, so the account tells whether there is one

-- the last figure of events that keep one is given if there was such an event
last_given : (t : Outcome → Bool) → ((r : Outcome) → t r ≡ true → keeps r ≡ true) → (h : List Given) → is_given (last (λ j. t j.outcome) (judged h)) ≡ any (λ j. t j.outcome) (judged h)
last_given t w [] = refl
last_given t w (g ∷ h) =
    let r : Outcome = judge (known (judged h)) g.event g.octets in
    by_cases (t r) (λ q. rw q (kept_given (known (judged h)) g.event g.octets (w r q))) (λ q. rw q (last_given t w h))

pub final_given : (s : ℕ) (h : List Given) → is_given (final s (judged h)) ≡ has_final s (judged h)
final_given s h = last_given (its s 22) (λ r q. rw (eqb-true r.number 22 (first_of (was 22 r) (eqb r.service s) q))) h

-- ---- what the account knows is what the list says

pub known_stands : (h : List Given) → known_of (account_by (judged h)) ≡ known (judged h)
known_stands h = rw (final_given D h, final_given E h)

-- ---- a fresh account stands for no events

pub fresh_stands : fresh ≡ account_by (judged [])
fresh_stands = refl

-- ---- the step takes the account of a history to that of the history with the event, and its outcome is the rules'

pub step_stands : (h : List Given) (g : Given) → stepped_of (account_by (judged h)) g.event g.octets ≡ stepped_by g h
unfolding stepped_of change_of
step_stands h g =
    rw (known_stands h) (ap (λ (x : Account). record { outcome = judge (known (judged h)) g.event g.octets; account = x }) (account_stands h g.event g.octets))

pub closing_stands : (h : List Given) → closing_of (account_by (judged h)) ≡ closing (judged h)
closing_stands h = rw (final_given D h, final_given E h)

-- ---- for every list of events from a fresh call: each event's outcome, and the rate, running and closing figures and marks after it

-- a step and readings that obey the rules, each at an account that stands for a history, do so over every list
from : (f : Calls) → Obeys f → (h l : List Given) → answers f (account_by (judged h)) l ≡ picked h l
from f o h [] = refl
from f o h (g ∷ l) =
    rw (o.step h g, o.rate (g ∷ h), o.running (g ∷ h), o.closing (g ∷ h), o.marks (g ∷ h)) (ap (λ (x : List Shown). shown g h ∷ x) (from f o (g ∷ h) l))

pub demand_any : (f : Calls) → Obeys f → (l : List Given) → answers f fresh l ≡ picked [] l
demand_any f o l = from f o [] l

pub obeys : Obeys ours
obeys = record { step = step_stands; rate = λ h. refl; running = λ h. refl; closing = closing_stands; marks = λ h. refl }

-- what a host calls: each function's clause `one` says that it is the one of `ours`
pub demand : (l : List Given) → answers ours fresh l ≡ picked [] l
demand = demand_any ours obeys

-- ---- an event with an outcome that counts for nothing changes nothing

-- the outcomes that count: a phase event's 0, and those that the rules over the list ask for
abbrev pub counting : List ℕ
counting = 0 ∷ 20 ∷ 21 ∷ 22 ∷ 23 ∷ 24 ∷ 25 ∷ 29 ∷ []

-- a test of outcomes that passes none of them
module _ (t : ℕ → Bool) (none : none_of t counting ≡ true) (r : Outcome) (q : t r.number ≡ true) where
  other : (k : ℕ) → among k counting ≡ true → eqb r.number k ≡ false
  other k m = apart t r.number k q (fails t counting none k m)

  pub notes_nothing : (s : Status) → noted s r ≡ s
  notes_nothing s = simp (other 23 refl, other 24 refl, other 25 refl, other 29 refl)

  pub keeps_nothing : (s : Status) (c : Charge) → change_by r s c ≡ record { outcome = r; place = None; status = s; charge = no_charge }
  keeps_nothing s c = simp (other 20 refl, other 21 refl, other 22 refl, other 24 refl)

  pub moves_nothing : (s : Status) (e : Event) → status_after s e r ≡ s
  moves_nothing s e = by_cases (eqb e.kind Component) (λ k. rw k (notes_nothing s)) (λ k. rw (k, other 0 refl))

  pub after_nothing : (a : Account) (e : Event) (c : Charge) → after a e c r ≡ a
  after_nothing a e c = rw (moves_nothing a.status e) (ap (put a) (keeps_nothing a.status c))

pub refused_nothing : (a : Account) (e : Event) (o : List ℕ) → is_refusal (stepped_of a e o).outcome.number ≡ true → (stepped_of a e o).account ≡ a
unfolding stepped_of change_of is_refusal
refused_nothing a e o q = after_nothing is_refusal refl (judge (known_of a) e o) q a e (charge_in o)

-- the same of a history
pub refused_left : (h : List Given) (g : Given) → is_refusal (judge (known (judged h)) g.event g.octets).number ≡ true → account_by (judged (g ∷ h)) ≡ account_by (judged h)
unfolding is_refusal
refused_left h g q =
    sym (account_stands h g.event g.octets) ∙ after_nothing is_refusal refl (judge (known (judged h)) g.event g.octets) q (account_by (judged h)) g.event (charge_in g.octets)

-- ---- the closing figure: no later event alters it

ended_stays : (h : List Given) (g : Given) → phase (judged h) ≡ Ended → account_by (judged (g ∷ h)) ≡ account_by (judged h)
ended_stays h g q = rw (ended_judge (known (judged h)) g.event g.octets q) (refused_stays (judged h) g.event g.octets)

pub ended_kept : (later h : List Given) → phase (judged h) ≡ Ended → account_by (judged (later ++ h)) ≡ account_by (judged h)
ended_kept [] h q = refl
ended_kept (g ∷ l) h q = ended_stays (l ++ h) g (ap (λ (a : Account). a.status.phase) (ended_kept l h q) ∙ q) ∙ ended_kept l h q

pub closing_kept : (later h : List Given) → phase (judged h) ≡ Ended → closing (judged (later ++ h)) ≡ closing (judged h)
closing_kept later h q = sym (closing_stands (later ++ h)) ∙ ap closing_of (ended_kept later h q) ∙ closing_stands h

-- ---- it appears only once the call is released

abbrev pub releases : Judged → Bool
releases j = eqb j.event.kind Released && was 0 j.outcome

not_ended : (h : List Judged) → any releases h ≡ false → eqb (phase h) Ended ≡ false
not_ended [] q = refl
not_ended (j ∷ h) q =
    by_cases (was 0 j.outcome)
    (λ b. by_cases (eqb j.event.kind Released)
    (λ r. never (sym (rw (b, r) at q))) (λ r. rw b (to_ended j.event.kind (phase h) r (not_ended h (rw r at q)))))
    (λ b. rw b (not_ended h (rw (b, and-false) at q)))

pub closing_released : (h : List Judged) → any releases h ≡ false → closing h ≡ no_closing
closing_released h q = rw (not_ended h q)
