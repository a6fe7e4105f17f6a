-- The plain engine's answers are the account's, on every list; and noise may be dropped from its list.
use Rattle.prelude.proofs.Prelude.{ℕ, ◌-◌, length, ◌≡◌, refl, sym, ◌∙◌, ap, List, [], ◌∷◌, reverse, reverse_aux, Bool, true, cond, eqb}
use Rattle.phases.{specs.declared.Outcome.Outcome, specs.Phases.Given}
use Rattle.outcomes.specs.{Outcome.judge, Status.requests_of}
use Rattle.account.specs.{declared.Account.Account, declared.Closing.Closing, declared.Stepped.Stepped, History.{judged, known, account_by, fresh, pending_of}}
use Rattle.account.{specs.Step.{closing_of, marks_of}, proofs.Demand.{fresh_stands, step_stands, closing_stands}}
use Rattle.account.{specs.Noise.{chosen, only_noise, outcomes, past, Standing, standing}, proofs.Noise.{noise_dropped, end_kept}}
use Rattle.events.specs.Events.{adds_up, events_of}
use Rattle.plain_lists.specs.Lists.{outcome_at}
use Rattle.plain.specs.Answers.{plain_outcome, plain_phase, plain_pending, plain_current_rate, plain_running, plain_closing, plain_marks}
use Rattle.plain.specs.Replay.{replayed, replied_at}

replied : (h l : List Given) (k : ℕ) → replied_at (account_by (judged h)) l k ≡ outcome_at h l k
unfolding replied_at outcome_at
replied h [] k = refl
replied h (g ∷ l) k =
    ap (λ (r : Stepped). cond (eqb k 1) r.outcome (replied_at r.account l (k - 1))) (step_stands h g)
    ∙ ap (λ (r : Outcome). cond (eqb k 1) (judge (known (judged h)) g.event g.octets) r) (replied (g ∷ h) l (k - 1))

ends : (h l : List Given) → replayed (account_by (judged h)) l ≡ account_by (judged (reverse_aux l h))
unfolding replayed
ends h [] = refl
ends h (g ∷ l) = ap (λ (r : Stepped). replayed r.account l) (step_stands h g) ∙ ends (g ∷ h) l

-- on slices that are an event list, the engine answers what a host that keeps an account is answered of each event of l, and what it reads off the account after them
pub record SameAnswers (rows octets : List ℕ) (l : List Given) : Type 0 where
  pub outcome_too : (k : ℕ) → plain_outcome rows octets k ≡ record { number = 0; outcome = replied_at fresh l k }
  pub phase_too : plain_phase rows octets ≡ record { number = 0; phase = (replayed fresh l).status.phase }
  pub pending_too : plain_pending rows octets ≡ record { number = 0; pending = pending_of (requests_of (replayed fresh l).status) }
  pub rate_too : plain_current_rate rows octets ≡ record { number = 0; value = (replayed fresh l).rate }
  pub running_too : plain_running rows octets ≡ record { number = 0; value = (replayed fresh l).running }
  pub closing_too : plain_closing rows octets ≡ record { number = 0; closing = closing_of (replayed fresh l) }
  pub marks_too : plain_marks rows octets ≡ record { number = 0; marks = marks_of (replayed fresh l) }

module _ (rows octets : List ℕ) (list : adds_up rows (length octets) ≡ true) where
  abbrev l : List Given
  l = events_of rows octets

  replies : (k : ℕ) → replied_at fresh l k ≡ outcome_at [] l k
  replies k = ap (λ (a : Account). replied_at a l k) fresh_stands ∙ replied [] l k

  end : replayed fresh l ≡ account_by (judged (reverse l))
  end = ap (λ (a : Account). replayed a l) fresh_stands ∙ ends [] l

  pub plain_is_account : SameAnswers rows octets (events_of rows octets)
  unfolding plain_outcome plain_phase plain_pending plain_current_rate plain_running plain_closing plain_marks
  plain_is_account = record {
    outcome_too = λ k. rw list (ap (λ (r : Outcome). record { number = 0; outcome = r }) (sym (replies k)));
    phase_too = rw list (ap (λ (a : Account). record { number = 0; phase = a.status.phase }) (sym end));
    pending_too = rw list (ap (λ (a : Account). record { number = 0; pending = pending_of (requests_of a.status) }) (sym end));
    rate_too = rw list (ap (λ (a : Account). record { number = 0; value = a.rate }) (sym end));
    running_too = rw list (ap (λ (a : Account). record { number = 0; value = a.running }) (sym end));
    closing_too = rw list (ap (λ (c : Closing). record { number = 0; closing = c }) (sym (ap closing_of end ∙ closing_stands (reverse l))));
    marks_too = rw list (ap (λ (a : Account). record { number = 0; marks = marks_of a }) (sym end));
  }

-- 02, request 12, for the engine: a list in slices with noise left out has the same figures, marks and pending requests, and each event that remains the outcome that it had
module _ (rows octets rows' octets' : List ℕ) (c : List Bool) (left : reverse (events_of rows' octets') ≡ chosen c (reverse (events_of rows octets)))
    (noise : only_noise c (outcomes (reverse (events_of rows octets))) ≡ true) where
  pub plain_end_kept : standing (reverse (events_of rows' octets')) ≡ standing (reverse (events_of rows octets))
  plain_end_kept = ap standing left ∙ end_kept c (reverse (events_of rows octets)) noise

  pub plain_outcomes_kept : past (reverse (events_of rows' octets')) ≡ chosen c (past (reverse (events_of rows octets)))
  plain_outcomes_kept = ap past left ∙ noise_dropped c (reverse (events_of rows octets)) noise

  -- and in the engine's own answers, where the slices of both are event lists
  module _ (list : adds_up rows (length octets) ≡ true) (list' : adds_up rows' (length octets') ≡ true) where
    pub plain_phase_kept : plain_phase rows' octets' ≡ plain_phase rows octets
    unfolding plain_phase
    plain_phase_kept = rw (list, list') (ap (λ (s : Standing). record { number = 0; phase = s.known.phase }) plain_end_kept)

    pub plain_pending_kept : plain_pending rows' octets' ≡ plain_pending rows octets
    unfolding plain_pending
    plain_pending_kept = rw (list, list') (ap (λ (s : Standing). record { number = 0; pending = pending_of s.known.pending }) plain_end_kept)

    pub plain_rate_kept : plain_current_rate rows' octets' ≡ plain_current_rate rows octets
    unfolding plain_current_rate
    plain_rate_kept = rw (list, list') (ap (λ (s : Standing). record { number = 0; value = s.rate }) plain_end_kept)

    pub plain_running_kept : plain_running rows' octets' ≡ plain_running rows octets
    unfolding plain_running
    plain_running_kept = rw (list, list') (ap (λ (s : Standing). record { number = 0; value = s.running }) plain_end_kept)

    pub plain_closing_kept : plain_closing rows' octets' ≡ plain_closing rows octets
    unfolding plain_closing
    plain_closing_kept = rw (list, list') (ap (λ (s : Standing). record { number = 0; closing = s.closing }) plain_end_kept)

    pub plain_marks_kept : plain_marks rows' octets' ≡ plain_marks rows octets
    unfolding plain_marks
    plain_marks_kept = rw (list, list') (ap (λ (s : Standing). record { number = 0; marks = s.marks }) plain_end_kept)
