-- What the places found by the scans say of a history.
use Rattle.prelude.proofs.Prelude.{ℕ, zero, suc, ◌+◌, ◌≤◌, ◌≡◌, refl, sym, ◌∙◌, ap, List, [], ◌∷◌, Bool, true, false, not, ◌&&◌, ◌||◌, cond, eqb, ltb, eqb-true}
use Rattle.prelude.proofs.{Prelude.{eqb-false, eq-eqb, and-false, arith, ltb-true, ltb-false}, Ways.{by_cases, the_second}}
use Rattle.phases.specs.{declared.Event.Event, Phases.{Idle, Setup, Component, S, D, E, Given, no_service, allowed, leads_to, clashes, Request}}
use Rattle.phases.{specs.Phases.{no_request, request_for, clash}, proofs.Choice.{if_same, by_number, never, first_of, second_of}, proofs.Transitions.to_idle}
use Rattle.phases.proofs.Transitions.{from_idle, setup_idle, component_stays}
use Rattle.requests.specs.Sets.{has}
use Rattle.outcomes.{specs.Outcome.{Requests, holder_of, judge, was, its, settles, first_final}, proofs.Judging.phased_judge}
use Rattle.account.specs.History.{Judged, any, phase, named, pending, has_final, requests, known, judged}
use Rattle.events.{specs.Events.row_at, proofs.Prefix.before_next, specs.inner.Prefix.{octets_at, given_at, before}}
use Rattle.plain_rules.specs.inner.Deciding.{next_by, sole}
use Rattle.plain_scans.specs.inner.{Scan.FirstAt, Claim.{three, claim_of}}
use Rattle.plain_scans.proofs.Claims.{judge_settles, judge_final_lem, claim_settles, claim_final, holders}

-- ---- the phase after one event more

pub phase_next : (h : List Given) (g : Given) → phase (judged (g ∷ h)) ≡ next_by (phase (judged h)) g.event
phase_next h g =
    by_cases (eqb g.event.kind Component)
    (λ c. rw (eqb-true g.event.kind Component c) (simp (component_stays, if_same)))
    (λ c. rw (phased_judge (known (judged h)) g.event g.octets c)
    (by_cases (allowed g.event.kind (phase (judged h)))
    (λ a. by_cases (eqb g.event.kind Setup && clashes g.event) (λ u. rw (a, u)) (λ u. rw (a, u)))
    (λ a. rw a)))

-- ---- what the accepted Setup named

-- an event that is the accepted Setup
abbrev pub accepts : List Given → Given → Bool
accepts h g = eqb g.event.kind Setup && was 0 (judge (known (judged h)) g.event g.octets)

pub accepted_idle : (h : List Given) (g : Given) → accepts h g ≡ true → (phase (judged h) ≡ Idle) × (clashes g.event ≡ false)
accepted_idle h g q =
    let kind : g.event.kind ≡ Setup = eqb-true _ _ (first_of _ _ q) in
    let other : eqb g.event.kind Component ≡ false = ap (λ (n : ℕ). eqb n Component) kind in
    let zero_now = rw (phased_judge (known (judged h)) g.event g.octets other) at (second_of (eqb g.event.kind Setup) _ q) in
    by_cases (allowed g.event.kind (phase (judged h)))
    (λ a. (setup_idle g.event.kind (phase (judged h)) a (first_of _ _ q), by_cases (clashes g.event) (λ u. never (rw (a, u, eq-eqb _ _ kind) at zero_now)) (λ u. u)))
    (λ a. never (rw a at zero_now))

-- before it the call is Idle and nothing is named
pub idle_before : (h : List Given) (g : Given) → phase (judged (g ∷ h)) ≡ Idle → phase (judged h) ≡ Idle
idle_before h g q = by_cases (was 0 (judge (known (judged h)) g.event g.octets)) (λ b. to_idle g.event.kind (phase (judged h)) (rw b at q)) (λ b. rw b at q)

accepted_phase : (h : List Given) (g : Given) → accepts h g ≡ true → phase (judged (g ∷ h)) ≡ 1
unfolding leads_to
accepted_phase h g a =
    rw (second_of (eqb g.event.kind Setup) _ a, (accepted_idle h g a).0, eqb-true g.event.kind Setup (first_of _ _ a)) refl

pub idle_unnamed : (s : ℕ) (h : List Given) → phase (judged h) ≡ Idle → named s (judged h) ≡ no_request
idle_unnamed s [] q = refl
idle_unnamed s (g ∷ h) q =
    by_cases (accepts h g)
    (λ a. never (sym (ap (λ (n : ℕ). eqb n 1) q) ∙ ap (λ (n : ℕ). eqb n 1) (accepted_phase h g a)))
    (λ a. rw a (idle_unnamed s h (idle_before h g q)))

-- once the call is not Idle, that stays
pub busy_kept : (h : List Given) (g : Given) → eqb (phase (judged h)) Idle ≡ false → eqb (phase (judged (g ∷ h))) Idle ≡ false
busy_kept h g n = by_number (phase (judged (g ∷ h))) Idle (λ e. never (sym (sym (eq-eqb _ _ (idle_before h g e)) ∙ n))) (λ e. e)

pub named_kept : (s : ℕ) (h : List Given) (g : Given) → eqb (phase (judged h)) Idle ≡ false → named s (judged (g ∷ h)) ≡ named s (judged h)
named_kept s h g n = by_cases (accepts h g) (λ a. never (sym (sym (eq-eqb _ _ (accepted_idle h g a).0) ∙ n))) (λ a. rw a)

-- ---- a service by its number

by_service : {P : Type 0} (s : ℕ) → 1 ≤ s → s ≤ 3 → (s ≡ 1 → P) → (s ≡ 2 → P) → (s ≡ 3 → P) → P
by_service s low high a b c = by_number s 1 a (λ n. by_number s 2 b (λ m. c (omega (arith, eqb-false s 1 n, eqb-false s 2 m))))

-- ---- no two requests have one identifier

record Distinct (a b c : Request) : Type 0 where
  sd : clash a b ≡ false
  se : clash a c ≡ false
  de : clash b c ≡ false

or_first : (a b : Bool) → (a || b) ≡ false → a ≡ false
or_first true b q = q
or_first false b q = refl

or_second : (a b : Bool) → (a || b) ≡ false → b ≡ false
or_second true b q = never (sym q)
or_second false b q = q

setup_distinct : (e : Event) → clashes e ≡ false → Distinct (request_for S e) (request_for D e) (request_for E e)
setup_distinct e q =
    let later = or_second (clash (request_for S e) (request_for D e)) _ q in
    record {
      sd = or_first (clash (request_for S e) (request_for D e)) _ q;
      se = or_first (clash (request_for S e) (request_for E e)) _ later;
      de = or_second (clash (request_for S e) (request_for E e)) _ later;
    }

named_distinct : (h : List Given) → Distinct (named S (judged h)) (named D (judged h)) (named E (judged h))
named_distinct [] = record { sd = refl; se = refl; de = refl }
named_distinct (g ∷ h) =
    by_cases (accepts h g)
    (λ a. rw a (setup_distinct g.event (accepted_idle h g a).1))
    (λ a. rw a (named_distinct h))

left_distinct : (x y : Bool) (p q : Request) → clash p q ≡ false → clash (cond x no_request p) (cond y no_request q) ≡ false
left_distinct true y p q n = refl
left_distinct false true p q n = and-false (not (eqb p.mark 0))
left_distinct false false p q n = n

pending_distinct : (h : List Given) → Distinct (pending S (judged h)) (pending D (judged h)) (pending E (judged h))
pending_distinct h =
    let d = named_distinct h in
    record {
      sd = left_distinct (any (λ j. settles S j.outcome) (judged h)) (any (λ j. settles D j.outcome) (judged h)) _ _ d.sd;
      se = left_distinct (any (λ j. settles S j.outcome) (judged h)) (any (λ j. settles E j.outcome) (judged h)) _ _ d.se;
      de = left_distinct (any (λ j. settles D j.outcome) (judged h)) (any (λ j. settles E j.outcome) (judged h)) _ _ d.de;
    }

-- ---- one event more: a test by form tells its 24 or 25, and its 22

idle_claim : (p : ℕ) → p ≡ Idle → (q : Requests) (kind : ℕ) (o : List ℕ) → claim_of p q kind o ≡ no_service 14
unfolding claim_of
idle_claim p z q kind o = by_cases (eqb kind Component) (λ c. rw (eqb-true kind Component c, from_idle Component p z refl)) (λ c. rw c)

-- a service's own among three
abbrev pick : ℕ → Request → Request → Request → Request
pick s a b c = cond (eqb s 1) a (cond (eqb s 2) b c)

module _ (a b c : Request) (d : Distinct a b c) (s : ℕ) (low : 1 ≤ s) (high : s ≤ 3) where
  held : (id : ℕ) → eqb (holder_of (three a b c) id) s ≡ eqb (holder_of (sole s (pick s a b c)) id) s
  held id = let h = holders a b c d.sd d.se d.de id in by_service s low high (λ e. rw e h.0) (λ e. rw e h.1) (λ e. rw e h.2)

  marked : has (three a b c).asked s ≡ has (sole s (pick s a b c)).asked s
  marked = by_service s low high (λ e. rw e) (λ e. rw e) (λ e. rw e)

picked : (s : ℕ) → 1 ≤ s → s ≤ 3 → (h : List Judged) → pick s (pending 1 h) (pending 2 h) (pending 3 h) ≡ pending s h
picked s low high h = by_service s low high (λ e. rw e) (λ e. rw e) (λ e. rw e)

module _ (h : List Given) (e : Event) (o : List ℕ) (s : ℕ) (low : 1 ≤ s) (high : s ≤ 3) (q : Request) (asked : eqb (phase (judged h)) Idle ≡ false → pending s (judged h) ≡ q) where
  pub settle_step : settles s (judge (known (judged h)) e o) ≡ settles s (claim_of (phase (judged h)) (sole s q) e.kind o)
  settle_step =
      judge_settles (known (judged h)) e o s
      ∙ by_number (phase (judged h)) Idle
      (λ z. rw (idle_claim (phase (judged h)) z (requests (judged h)) e.kind o, idle_claim (phase (judged h)) z (sole s q) e.kind o))
      (λ n. claim_settles (requests (judged h)) (sole s q) s
      (λ id. held _ _ _ (pending_distinct h) s low high id ∙ ap (λ (x : Request). eqb (holder_of (sole s x) id) s) (picked s low high (judged h) ∙ asked n))
      (phase (judged h)) e.kind o)

  pub final_step : (first_final (known (judged h)) s).given ≡ false → its s 22 (judge (known (judged h)) e o) ≡ its s 22 (claim_of (phase (judged h)) (sole s q) e.kind o)
  final_step g =
      judge_final_lem (known (judged h)) e o s g
      ∙ by_number (phase (judged h)) Idle
      (λ z. rw (idle_claim (phase (judged h)) z (requests (judged h)) e.kind o, idle_claim (phase (judged h)) z (sole s q) e.kind o))
      (λ n. claim_final (requests (judged h)) (sole s q) s
      (marked _ _ _ (pending_distinct h) s low high ∙ ap (λ (x : Request). has (sole s x).asked s) (picked s low high (judged h) ∙ asked n))
      (phase (judged h)) e.kind o)

pub first_given : (h : List Judged) (s : ℕ) → 2 ≤ s → s ≤ 3 → (first_final (known h) s).given ≡ has_final s h
first_given h s low high = by_number s 2 (λ e. rw e) (λ n. let e : s ≡ 3 = omega (arith, eqb-false s 2 n) in rw e)

-- what holds at one number, and passes on to the next, holds from there on
pub upwards : (P : ℕ → Type 0) → ((m : ℕ) → P m → P (suc m)) → (m i : ℕ) → i ≤ m → P i → P m
upwards P next zero i h p = let e : i ≡ 0 = omega arith in rw e at p
upwards P next (suc m) i h p = by_number i (suc m) (λ e. rw e at p) (λ n. next m (upwards P next m i (omega (arith, eqb-false i (suc m) n)) p))

-- ---- the first that passes a test

module _ (rows octets : List ℕ) where
  module _ (t : Judged → Bool) where
    abbrev passes : ℕ → Bool
    passes i = any t (judged (before rows octets i))

    pub any_next : (i : ℕ) → passes i ≡ true → passes (suc i) ≡ true
    unfolding before
    any_next i q =
        let now = judge (known (judged (before rows octets i))) (row_at rows i) (octets_at rows octets i) in
        the_second (t (record { event = row_at rows i; octets = octets_at rows octets i; outcome = now })) (passes i) q

    pub any_up : (m i : ℕ) → i ≤ m → passes i ≡ true → passes m ≡ true
    any_up = upwards (λ m. passes m ≡ true) any_next

    module _ (k r : ℕ) (f : FirstAt t rows octets k r) where
      pub found_by : (i : ℕ) → i ≤ k → passes i ≡ ltb r i
      found_by i h =
          by_cases (ltb r i)
          (λ l. rw l (any_up i (suc r) (omega (arith, ltb-true r i l)) (f.there (omega (arith, ltb-true r i l)))))
          (λ l. rw l (by_cases (passes i) (λ q. never (sym f.none ∙ any_up r i (omega (arith, ltb-false r i l)) q)) (λ q. q)))

-- ---- a scan's phase, after one event more

pub phase_more : (rows octets : List ℕ) (i p : ℕ) (e : Event) (r : ℕ) → p ≡ phase (judged (before rows octets i)) → e ≡ row_at rows i → r ≡ next_by p e
    → r ≡ phase (judged (before rows octets (i + 1)))
phase_more rows octets i p e r a b c =
    c ∙ rw (a, b) (sym (phase_next (before rows octets i) (given_at rows octets i))) ∙ ap (λ (l : List Given). phase (judged l)) (sym (before_next rows octets i))
