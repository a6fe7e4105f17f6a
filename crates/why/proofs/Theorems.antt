-- The reason given holds with its event, no reason earlier in the order holds with any event, and it holds with no earlier event.
use Rattle.prelude.proofs.Prelude.{ℕ, ◌≤◌, ◌<◌, ◌≡◌, refl, Bool, true, false, cond, List, reverse, arith, eqb, lit<, eqb-false, ne_eqb}
use Rattle.prelude.proofs.Ways.{by_cases}
use Rattle.phases.{proofs.Choice.by_number, specs.Phases.Ended, specs.Phases.D, specs.Phases.E, specs.Phases.Given}
use Rattle.outcomes.specs.Outcome.{was, its}
use Rattle.account.specs.History.{Judged, judged, phase}
use Rattle.events.proofs.Earliest.{Passes, found, none_found, first}
use Rattle.why_rules.specs.{declared.Reason.Reason, Reasons.{passed_over, told_absent, unread, because, if_found, explained, reason_of}}

-- a reason holds with an event (0: with none)
pub data Holds (h : List Judged) : ℕ → ℕ → Type 0 where
  still_open : (phase h ≡ Ended → ⊥) → Holds h 1 0
  closed_by_e : {n : ℕ} → phase h ≡ Ended → Passes (λ j. its E 22 j.outcome) h n → Holds h 2 n
  closed_by_d : {n : ℕ} → phase h ≡ Ended → ((m : ℕ) → Passes (λ j. its E 22 j.outcome) h m → ⊥) → Passes (λ j. its D 22 j.outcome) h n → Holds h 2 n
  figure_passed_over : {n : ℕ} → Passes (λ j. passed_over j.outcome j.octets) h n → Holds h 3 n
  not_available : {n : ℕ} → Passes (λ j. told_absent j.outcome) h n → Holds h 4 n
  only_running : {n : ℕ} → Passes (λ j. was 21 j.outcome) h n → Holds h 5 n
  component_refused : {n : ℕ} → Passes (λ j. unread j.outcome) h n → Holds h 6 n
  nothing_usable : Holds h 7 0

-- ---- the reason given holds with its event

module _ (h : List Judged) where
  abbrev Right : Reason → Type 0
  Right r = Holds h r.reason r.event

  give : (n e : ℕ) (rest : Reason) → ((e ≡ 0 → ⊥) → Holds h n e) → (e ≡ 0 → Right rest) → Right (if_found n e rest)
  give n e rest p q = by_number e 0 (λ z. rw z (q z)) (λ z. rw z (p (eqb-false e 0 z)))

  right : Right (explained h)
  unfolding explained
  right =
      by_number (phase h) Ended
      (λ p. rw p
      (give 2 _ _ (λ e. closed_by_e p (found _ h e)) (λ z.
      give 2 _ _ (λ e. closed_by_d p (λ m q. (first _ q).0 z) (found _ h e)) (λ _.
      give 3 _ _ (λ e. figure_passed_over (found _ h e)) (λ _.
      give 4 _ _ (λ e. not_available (found _ h e)) (λ _.
      give 5 _ _ (λ e. only_running (found _ h e)) (λ _.
      give 6 _ _ (λ e. component_refused (found _ h e)) (λ _.
      nothing_usable))))))))
      (λ p. rw p (still_open (eqb-false (phase h) Ended p)))

pub true_reason : (l : List Given) → Holds (judged (reverse l)) (reason_of l).reason (reason_of l).event
unfolding reason_of
true_reason l = right (judged (reverse l))

-- ---- it is the first in the order, with the first event

record Least (m n : ℕ) (r : Reason) : Type 0 where
  reason : r.reason ≤ m
  event : r.reason ≡ m → r.event ≤ n

still_open_lem : (m n : ℕ) (ended : Bool) (rest : Reason) → 1 < m → Least m n rest → Least m n (cond ended rest (because 1 0))
still_open_lem m n true rest h l = l
still_open_lem m n false rest h l = record { reason = omega arith; event = λ z. omega arith }

skip : (k m n e : ℕ) (rest : Reason) → k < m → Least m n rest → Least m n (if_found k e rest)
skip k m n e rest h l = by_cases (eqb e 0) (λ q. rw q l) (λ q. rw q (record { reason = omega arith; event = λ z. omega arith }))

hit : (m n e : ℕ) (rest : Reason) → (e ≡ 0 → ⊥) × (e ≤ n) → Least m n (if_found m e rest)
hit m n e rest p = rw (ne_eqb e 0 p.0) (record { reason = omega arith; event = λ _. p.1 })

last_one : Least 7 0 (because 7 0)
last_one = record { reason = omega arith; event = λ _. omega arith }

ruleset order = (still_open_lem, skip, hit, last_one, lit<, tt)

least : {h : List Judged} {m n : ℕ} → Holds h m n → Least m n (explained h)
unfolding explained
least {h} (still_open p) = rw (ne_eqb (phase h) Ended p) (record { reason = omega arith; event = λ _. omega arith })
least {h} (closed_by_e {n} p q) = rw p (hit 2 n _ _ (first _ q))
least {h} (closed_by_d {n} p none q) = rw (p, none_found _ h none) (hit 2 n _ _ (first _ q))
least (figure_passed_over q) = search (order, first _ q) depth 12
least (not_available q) = search (order, first _ q) depth 12
least (only_running q) = search (order, first _ q) depth 12
least (component_refused q) = search (order, first _ q) depth 12
least nothing_usable = search order depth 12

pub first_reason : (l : List Given) (m n : ℕ) → m < (reason_of l).reason → Holds (judged (reverse l)) m n → ⊥
unfolding reason_of
first_reason l m n h p = omega (arith, (least p).reason)

pub first_event : (l : List Given) (n : ℕ) → n < (reason_of l).event → Holds (judged (reverse l)) (reason_of l).reason n → ⊥
unfolding reason_of
first_event l n h p = omega (arith, (least p).event refl)
