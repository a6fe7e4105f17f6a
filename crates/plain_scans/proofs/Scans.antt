-- The scans, one event more.
use Rattle.prelude.proofs.Prelude.{ℕ, suc, ◌+◌, ◌-◌, ◌≤◌, ◌<◌, ◌≡◌, refl, sym, ◌∙◌, ap, List, Bool, true, false, cond, eqb, ltb, eqb-true, eqb-false, arith}
use Rattle.prelude.proofs.{Prelude.{length, take, drop, lt-ltb, le-ltb}, Ways.by_cases}
use Rattle.requests.specs.Sets.{empty_set}
use Rattle.types.specs.declared.Charge.{Charge}
use Rattle.phases.specs.{declared.Event.Event, declared.Outcome.Outcome, declared.Status.Status, Phases.{Idle, Setup, Component, Given, outcome, allowed}}
use Rattle.phases.{specs.Phases.{clashes, Request, no_request, request_for}, proofs.Choice.{if_same, by_number, never}, proofs.Transitions.from_idle}
use Rattle.outcomes.{specs.Outcome.{judge, judge_final, charge_in, its, settles, first_final}, specs.Status.requests_of, proofs.Judging.{phased_judge, only_final}}
use Rattle.account.specs.History.{any, phase, named, pending, has_final, final, known, judged}
use Rattle.events.specs.{Events.{row_at, count_at}, inner.Prefix.{place_at, octets_at, given_at, before}}
use Rattle.events.proofs.Prefix.{before_next, part_at, turn_inside, next_place}
use Rattle.plain_rules.specs.{inner.Deciding.{next_by, ask_of, request_of, sole, sought}, declared.Ask.Ask}
use Rattle.plain_scans.specs.inner.{Scan.{Scan, Here, FirstAt, Requested}, Claim.{claim_of, Asks}}
use Rattle.plain_scans.proofs.Histories.{accepts, idle_unnamed, busy_kept, named_kept}
use Rattle.plain_scans.proofs.Histories.{settle_step, final_step, first_given, upwards, any_next, found_by, phase_more}

-- an event that leaves Idle is the accepted Setup
accepted_of : (h : List Given) (g : Given) → phase (judged h) ≡ Idle → (next_by 0 g.event ≡ 0 → ⊥) → accepts h g ≡ true
accepted_of h g idle n =
    by_cases (allowed g.event.kind 0)
    (λ a. by_cases (eqb g.event.kind Setup)
    (λ k. let other : eqb g.event.kind Component ≡ false = ap (λ (x : ℕ). eqb x Component) (eqb-true g.event.kind Setup k) in
    by_cases (clashes g.event)
    (λ u. absurd (n (rw (a, k, u))))
    (λ u. rw (phased_judge (known (judged h)) g.event g.octets other, idle, a, k, u)))
    (λ k. never (sym (from_idle g.event.kind 0 refl k) ∙ a)))
    (λ a. absurd (n (rw a)))

-- the outcome of event i
abbrev pub outcome_of : List ℕ → List ℕ → ℕ → Outcome
outcome_of rows octets i = judge (known (judged (before rows octets i))) (row_at rows i) (octets_at rows octets i)

module _ (rows octets : List ℕ) where
  -- ---- the accepted Setup

  -- what is named once the call is not Idle stays named
  pub named_at : (s k i : ℕ) → i ≤ k → eqb (phase (judged (before rows octets i))) Idle ≡ false → named s (judged (before rows octets i)) ≡ named s (judged (before rows octets k))
  unfolding before
  named_at s k i h n =
      (upwards (λ m. (eqb (phase (judged (before rows octets m))) Idle ≡ false)
      × (named s (judged (before rows octets i)) ≡ named s (judged (before rows octets m))))
      (λ m p. (
        busy_kept (before rows octets m) (given_at rows octets m) p.0,
        p.1
            ∙ sym (named_kept s (before rows octets m) (given_at rows octets m) p.0),
      ))
      k i h (n, refl)).1

  module _ (i : ℕ) (idle : phase (judged (before rows octets i)) ≡ Idle) (e : Event) (row : e ≡ row_at rows i) where
    pub idle_more : next_by 0 e ≡ 0 → phase (judged (before rows octets (i + 1))) ≡ Idle
    idle_more z = sym (phase_more rows octets i 0 e 0 (sym idle) row (sym z))

    pub setup_found : (k : ℕ) → i < k → (next_by 0 e ≡ 0 → ⊥) → Asks (judged (before rows octets k)) e
    setup_found k h n =
        let a = accepted_of (before rows octets i) (given_at rows octets i) idle (λ z. n (ap (next_by 0) row ∙ z)) in
        let more : phase (judged (before rows octets (i + 1))) ≡ next_by 0 e = sym (phase_more rows octets i 0 e _ (sym idle) row refl) in
        let busy : eqb (phase (judged (before rows octets (i + 1)))) Idle ≡ false =
        by_number (phase (judged (before rows octets (i + 1)))) Idle (λ z. absurd (n (sym more ∙ z))) (λ z. z) in
        record {
          all = λ s. sym (named_at s k (i + 1) (omega arith) busy)
              ∙ ap (λ (l : List Given). named s (judged l)) (before_next rows octets i)
              ∙ rw a (ap (request_for s) (sym row));
        }

  pub setup_none : (k : ℕ) → phase (judged (before rows octets k)) ≡ Idle → (none : Event) → none.asked ≡ empty_set → Asks (judged (before rows octets k)) none
  setup_none k idle none e = record { all = λ s. idle_unnamed s (before rows octets k) idle ∙ sym (rw e (simp if_same)) }

-- ---- a scan for the first event whose outcome passes a test

pub scan_starts : {f : Outcome → Bool} {rows octets : List ℕ} {k : ℕ} → Here f rows octets k 0 0 0
unfolding before place_at
scan_starts = record { row = omega arith; place = refl; met = refl; none = refl }

-- before event i
module _ {f : Outcome → Bool} {rows octets : List ℕ} {k i at p : ℕ} (here : Here f rows octets k i at p) where
  pub found_here : i < k → f (outcome_of rows octets i) ≡ true → FirstAt (λ j. f j.outcome) rows octets k i
  unfolding before
  found_here h q = record { inside = omega arith; none = here.none; there = λ _. rw q refl }

  pub found_none : k ≤ i → FirstAt (λ j. f j.outcome) rows octets k k
  found_none l = let e : i ≡ k = omega (arith, here.row) in record { inside = omega arith; none = rw e at here.none; there = λ m. absurd (omega arith) }

  -- the code's count is c, its row e
  module _ {c : ℕ} (counted : c ≡ count_at rows i) where
    pub scan_inside : Scan rows octets k → i < k → at + c ≤ length octets
    scan_inside s h = turn_inside rows octets i here.place counted s.list (omega (arith, s.some))

    module _ {e : Event} (row : e ≡ row_at rows i) where
      pub scan_goes_on : i < k → {r : ℕ} → r ≡ next_by p e → f (outcome_of rows octets i) ≡ false → Here f rows octets k (i + 1) (at + c) r
      scan_goes_on h {r} q other = record {
        row = omega arith;
        place = next_place rows octets i here.place counted;
        met = phase_more rows octets i p e r here.met row q;
        none = ap (λ (l : List Given). any (λ j. f j.outcome) (judged l)) (before_next rows octets i) ∙ rw (other, here.none) refl;
      }

      -- what is tested of it: the outcome at a status with one service's request alone
      module _ (t : Status) (s : ℕ) (q : Request) (alone : (t.phase ≡ p) × (requests_of t ≡ sole s q)) {o : Outcome}
          (is : o ≡ claim_of t.phase (requests_of t) e.kind (take (at + c - at) (drop at octets))) where
        claim_at : o ≡ claim_of (phase (judged (before rows octets i))) (sole s q) (row_at rows i).kind (octets_at rows octets i)
        claim_at = is ∙ rw (alone.0, alone.1, here.met, row, part_at rows octets i here.place counted) refl

        module _ (low : 1 ≤ s) (high : s ≤ 3)
            (asked : eqb (phase (judged (before rows octets i))) Idle ≡ false → pending s (judged (before rows octets i)) ≡ q) where
          pub tells_settled : settles s (outcome_of rows octets i) ≡ settles s o
          tells_settled = settle_step (before rows octets i) (row_at rows i) (octets_at rows octets i) s low high q asked ∙ ap (settles s) (sym claim_at)

          pub tells_final : has_final s (judged (before rows octets i)) ≡ false → 2 ≤ s → its s 22 (outcome_of rows octets i) ≡ its s 22 o
          tells_final none two =
              final_step (before rows octets i) (row_at rows i) (octets_at rows octets i) s low high q asked
              (first_given (judged (before rows octets i)) s two high ∙ none)
              ∙ ap (its s 22) (sym claim_at)

-- ---- a request at event i, by what the Setup named and the place of the answer

module _ (rows octets : List ℕ) where
  module _ (s k i : ℕ) (h : i ≤ k) (q : Request) (names : named s (judged (before rows octets k)) ≡ q) where
    pub still_named : any (λ j. settles s j.outcome) (judged (before rows octets i)) ≡ false
        → eqb (phase (judged (before rows octets i))) Idle ≡ false → pending s (judged (before rows octets i)) ≡ q
    still_named none busy = rw none (named_at rows octets s k i h busy ∙ names)

    pub pending_at : (r : ℕ) → FirstAt (λ j. settles s j.outcome) rows octets k r
        → eqb (phase (judged (before rows octets i))) Idle ≡ false → pending s (judged (before rows octets i)) ≡ cond (ltb r i) no_request q
    pending_at r f busy = rw (found_by rows octets (λ j. settles s j.outcome) k r f i h, named_at rows octets s k i h busy, names) refl

  pub pending_last : (s k : ℕ) (q : Request) → named s (judged (before rows octets k)) ≡ q → (r : ℕ) → FirstAt (λ j. settles s j.outcome) rows octets k r
      → pending s (judged (before rows octets k)) ≡ cond (ltb r k) no_request q
  pending_last s k q names r f = rw (found_by rows octets (λ j. settles s j.outcome) k r f k (omega arith), names) refl

  -- what a Setup asks for is what was named
  module _ (s k : ℕ) {e : Event} {q : Ask} (asks : Asks (judged (before rows octets k)) e) (is : q ≡ ask_of (request_for s e)) where
    pub for_answer : Requested false rows octets k s q k
    for_answer = record { names = asks.all s ∙ sym (ap request_of is); answered = λ z. never z; unanswered = λ _. omega arith }

    pub for_final : 2 ≤ s → {r : ℕ} → FirstAt (λ j. settles s j.outcome) rows octets k r → Requested true rows octets k s q r
    for_final two f = record { names = for_answer.names; answered = λ _. (two, f); unanswered = λ z. never (sym z) }

-- event i of a scan is looked for where the outcome that is tested says so
module _ {rows octets : List ℕ} {k i at p s place c : ℕ} {q u : Ask} {e : Event} (low : 1 ≤ s) (high : s ≤ 3) (more : i < k)
    (counted : c ≡ count_at rows i) (row : e ≡ row_at rows i) (t : Status) (gone : u ≡ ask_of (cond (ltb place i) no_request (request_of q)))
    (alone : (t.phase ≡ p) × (requests_of t ≡ sole s (request_of u))) {o : Outcome}
    (is : o ≡ claim_of t.phase (requests_of t) e.kind (take (at + c - at) (drop at octets))) where
  pub tells_sought : (finals : Bool) → Here (sought finals s) rows octets k i at p → Requested finals rows octets k s q place
      → sought finals s (outcome_of rows octets i) ≡ sought finals s o
  tells_sought true here asked =
      tells_final here counted row t s (request_of u) alone is low high
      (λ busy. pending_at rows octets s k i here.row _ asked.names place (asked.answered refl).1 busy ∙ sym (ap request_of gone))
      here.none (asked.answered refl).0
  tells_sought false here asked =
      let later : ltb place i ≡ false = le-ltb place i (omega (arith, asked.unanswered refl)) in
      tells_settled here counted row t s (request_of u) alone is low high
      (λ busy. still_named rows octets s k i here.row _ asked.names here.none busy ∙ sym (ap request_of gone ∙ rw later refl))

-- ---- the first final of a service

module _ {rows octets : List ℕ} {k i : ℕ} (s : ℕ) (low : 2 ≤ s) (high : s ≤ 3) (f : FirstAt (λ j. its s 22 j.outcome) rows octets k i) where
  final_up : (m n : ℕ) → n ≤ m → has_final s (judged (before rows octets n)) ≡ true
      → final s (judged (before rows octets m)) ≡ final s (judged (before rows octets n))
  unfolding before
  final_up m n h q =
      (upwards (λ m. (has_final s (judged (before rows octets m)) ≡ true) × (final s (judged (before rows octets m)) ≡ final s (judged (before rows octets n))))
      (λ m p. (
        any_next rows octets (λ j. its s 22 j.outcome) m p.0,
        rw (only_final (known (judged (before rows octets m))) (row_at rows m) (octets_at rows octets m) s
            (first_given (judged (before rows octets m)) s low high ∙ p.0)) p.1,
      ))
      m n h (q, refl)).1

  final_now : i < k → final s (judged (before rows octets (suc i))) ≡ charge_in (octets_at rows octets i)
  unfolding before
  final_now h = by_cases (its s 22 (outcome_of rows octets i)) (λ t. rw t refl) (λ t. never (sym f.none ∙ rw t at (f.there h)))

  first_charge : i < k → (first_final (known (judged (before rows octets k))) s).charge ≡ charge_in (octets_at rows octets i)
  first_charge h =
      by_number s 2 (λ e. rw e refl) (λ n. let e : s ≡ 3 = omega (arith, eqb-false s 2 n) in rw e refl)
      ∙ final_up k (suc i) (omega arith) (f.there h) ∙ final_now h

  first_is : (first_final (known (judged (before rows octets k))) s).given ≡ ltb i k
  first_is = first_given (judged (before rows octets k)) s low high ∙ found_by rows octets (λ j. its s 22 j.outcome) k i f k (omega arith)

  -- a final beside it
  module _ (c : Charge) where
    pub final_first : k ≤ i → outcome 22 s ≡ judge_final (first_final (known (judged (before rows octets k))) s) s c
    final_first h = sym (rw (first_is, le-ltb i k h))

    pub final_again : i < k → {first : Charge} → first ≡ charge_in (octets_at rows octets i)
        → judge_final (record { given = true; charge = first }) s c ≡ judge_final (first_final (known (judged (before rows octets k))) s) s c
    final_again h is = sym (rw (first_is, lt-ltb i k h, first_charge h, ← is))
