-- What the scans test is what the rules of outcomes say: an outcome of a service hangs on that service's request alone.
use Rattle.prelude.proofs.Prelude.{ℕ, ◌≡◌, refl, sym, ◌∙◌, List, Bool, true, false, not, ◌&&◌, cond, eqb, eqb-true, eq-eqb, ne_eqb, and-false, ◌≤◌, leb, arith}
use Rattle.std.specs.Prelude.{Option, is_some}
use Rattle.prelude.proofs.Ways.{by_cases}
use Rattle.types.specs.{declared.Charge.Charge, declared.Front.Front, Frames.read_of}
use Rattle.requests.specs.Sets.{has}
use Rattle.phases.specs.{declared.Event.Event, declared.Outcome.Outcome, Phases.{Suspended, Setup, Component, S, no_service, allowed, clashes, Request, clash}}
use Rattle.phases.{proofs.Choice.{by_number, never, first_of, second_of}, specs.inner.ByNumber.{moving_of, next_phase}}
use Rattle.outcomes.specs.Outcome.{service_of, Requests, holder_of, Known, first_final, judge_failure, judge, charge_in, was, its, settles, is_refusal}
use Rattle.outcomes.specs.inner.ByNumber.{runs_by, closes_by, fits_by, claim_figure, claim_invoke, claim_result, claim_frame, claim_record, compared}
use Rattle.outcomes.proofs.{Refusals.{decoding_refusal, apart}, Claims.resolves}
use Rattle.plain_rules.specs.inner.Deciding.{bare, sole}
use Rattle.plain_scans.specs.inner.Claim.{three, claim_of}

-- where an event leads nowhere it is not allowed
module _ (k p : ℕ) {n : Option ℕ} (q : n ≡ next_phase k p) {b : Bool} (s : is_some n ≡ not b) where
  pub not_allowed : b ≡ true → allowed k p ≡ false
  not_allowed h = by_cases (allowed k p) (λ t. never (sym (rw (q, t, h) at s))) (λ t. t)

  pub is_allowed : b ≡ false → allowed k p ≡ true
  is_allowed h = by_cases (allowed k p) (λ t. t) (λ t. never (rw (q, t, h) at s))

by_way : (P : Outcome → Type 0) (b : Bool) (x y : Outcome) → P x → P y → P (cond b x y)
by_way P true x y p q = p
by_way P false x y p q = q

refused_apart : (o : List ℕ) (n : ℕ) → eqb (read_of o).number 0 ≡ false → is_refusal n ≡ false → eqb (read_of o).number n ≡ false
unfolding is_refusal
refused_apart o n q r = apart is_refusal (read_of o).number n (decoding_refusal o q) r

-- the outcome of a component that is heard
pub judge_claim : (k : Known) (e : Event) (o : List ℕ) → (eqb e.kind Component && allowed e.kind k.phase) ≡ true
    → judge k e o ≡ compared k (claim_of k.phase k.pending e.kind o) (charge_in o)
unfolding judge claim_of is_refusal
judge_claim k e o h =
    let kind : eqb e.kind Component ≡ true = first_of _ _ h in
    let met : allowed e.kind k.phase ≡ true = second_of (eqb e.kind Component) _ h in
    by_cases (eqb (read_of o).number 0)
    (λ z. rw (kind, met, z) (sym (resolves k (read_of o).value)))
    (λ z. rw (kind, met, z) (rw (refused_apart o 22 z refl)))

-- the outcome of any other event
pub judge_other : (k : Known) (e : Event) (o : List ℕ) → (eqb e.kind Component && allowed e.kind k.phase) ≡ false
    → judge k e o ≡ cond (allowed e.kind k.phase) (cond (eqb e.kind Setup && clashes e) (no_service 13) (no_service 0)) (no_service 14)
unfolding judge
judge_other k e o h =
    by_cases (allowed e.kind k.phase)
    (λ a. by_cases (eqb e.kind Component) (λ c. never (sym (rw (c, a) at h))) (λ c. rw (a, c)))
    (λ a. rw a)

-- comparing alters no 24 or 25
compared_settles : (k : Known) (r : Outcome) (c : Charge) (s : ℕ) → settles s (compared k r c) ≡ settles s r
compared_settles k r c s =
    by_number r.number 22
    (λ e. rw e (search (by_way (λ x. settles s x ≡ false))))
    (λ e. rw e)

-- and where a service has no final yet, it leaves its 22
compared_final : (k : Known) (r : Outcome) (c : Charge) (s : ℕ) → (first_final k s).given ≡ false → its s 22 (compared k r c) ≡ its s 22 r
compared_final k r c s g =
    by_number r.number 22
    (λ e. by_number r.service s (λ f. rw (e, f, g)) (λ f. rw (e, f) (search (by_way (λ x. its s 22 x ≡ false)))))
    (λ e. simp e)

pub judge_settles : (k : Known) (e : Event) (o : List ℕ) (s : ℕ) → settles s (judge k e o) ≡ settles s (claim_of k.phase k.pending e.kind o)
unfolding claim_of
judge_settles k e o s =
    by_cases (eqb e.kind Component && allowed e.kind k.phase)
    (λ h. rw (judge_claim k e o h) (compared_settles k (claim_of k.phase k.pending e.kind o) (charge_in o) s))
    (λ h. rw (judge_other k e o h, h) (search (by_way (λ x. settles s x ≡ false))))

pub judge_final_lem : (k : Known) (e : Event) (o : List ℕ) (s : ℕ) → (first_final k s).given ≡ false → its s 22 (judge k e o) ≡ its s 22 (claim_of k.phase k.pending e.kind o)
unfolding claim_of
judge_final_lem k e o s g =
    by_cases (eqb e.kind Component && allowed e.kind k.phase)
    (λ h. rw (judge_claim k e o h) (compared_final k (claim_of k.phase k.pending e.kind o) (charge_in o) s g))
    (λ h. rw (judge_other k e o h, h) (search (by_way (λ x. its s 22 x ≡ false))))

-- what is told of invokes, results and failures with two sets of requests is told of every component
module _ (t : Outcome → Bool) (p q : Requests) where
  both : (b : Bool) (x y x' y' : Outcome) → t x ≡ t x' → t y ≡ t y' → t (cond b x y) ≡ t (cond b x' y')
  both true x y x' y' e f = e
  both false x y x' y' e f = f

  claim_alike : ((phase operation kind total : ℕ) → t (claim_invoke phase p operation kind total) ≡ t (claim_invoke phase q operation kind total))
      → ((id kind : ℕ) → t (claim_result (holder_of p id) kind) ≡ t (claim_result (holder_of q id) kind))
      → ((id : ℕ) → t (judge_failure (holder_of p id)) ≡ t (judge_failure (holder_of q id)))
      → (phase kind : ℕ) (o : List ℕ) → t (claim_of phase p kind o) ≡ t (claim_of phase q kind o)
  unfolding claim_of claim_record
  claim_alike invoke result failure phase kind o =
      let front = (read_of o).value.front in
      let figure = (read_of o).value.charge.figure in
      both (eqb kind Component && allowed kind phase) _ _ _ _
      (both (eqb (read_of o).number 0) _ _ _ _
      (both (eqb phase Suspended) _ _ _ _ refl
      (both (eqb front.frame 1) _ _ _ _ (invoke phase front.operation figure.kind figure.total)
      (both (eqb front.frame 2) _ _ _ _ (result front.id figure.kind)
      (both (eqb front.unnamed 1) _ _ _ _ refl (failure front.id)))))
      refl)
      refl

-- ---- 24 and 25 hang on one service's request alone

invoke_settles : (phase : ℕ) (q : Requests) (operation kind total s : ℕ) → settles s (claim_invoke phase q operation kind total) ≡ false
invoke_settles phase q operation kind total s = search (by_way (λ r. settles s r ≡ false)) depth 12 fits 3000

result_none : (u s kind : ℕ) → eqb u s ≡ false → settles s (claim_result u kind) ≡ false
result_none u s kind f = by_cases (eqb u 0) (λ z. rw z) (λ z. by_cases (fits_by u kind) (λ g. rw (z, g, f)) (λ g. rw (z, g)))

failure_none : (u s : ℕ) → eqb u s ≡ false → settles s (judge_failure u) ≡ false
failure_none u s f = by_cases (eqb u 0) (λ z. rw z) (λ z. rw (z, f))

module _ (u v s : ℕ) (alike : eqb u s ≡ eqb v s) where
  result_alike : (kind : ℕ) → settles s (claim_result u kind) ≡ settles s (claim_result v kind)
  result_alike kind =
      by_number u s
      (λ e. let f : v ≡ s = eqb-true v s (sym alike ∙ eq-eqb u s e) in rw (e, f))
      (λ e. rw (result_none u s kind e, result_none v s kind (sym alike ∙ e)))

  failure_alike : settles s (judge_failure u) ≡ settles s (judge_failure v)
  failure_alike =
      by_number u s
      (λ e. let f : v ≡ s = eqb-true v s (sym alike ∙ eq-eqb u s e) in rw (e, f))
      (λ e. rw (failure_none u s e, failure_none v s (sym alike ∙ e)))

module _ (p q : Requests) (s : ℕ) (alike : (id : ℕ) → eqb (holder_of p id) s ≡ eqb (holder_of q id) s) where
  pub claim_settles : (phase kind : ℕ) (o : List ℕ) → settles s (claim_of phase p kind o) ≡ settles s (claim_of phase q kind o)
  claim_settles =
      claim_alike (settles s) p q
      (λ phase operation kind total. invoke_settles phase p operation kind total s ∙ sym (invoke_settles phase q operation kind total s))
      (λ id kind. result_alike _ _ s (alike id) kind)
      (λ id. failure_alike _ _ s (alike id))

-- ---- 22 hangs on one service's mark alone

result_final : (u kind s : ℕ) → its s 22 (claim_result u kind) ≡ false
result_final u kind s = search (by_way (λ r. its s 22 r ≡ false)) depth 12 fits 3000

failure_final : (u s : ℕ) → its s 22 (judge_failure u) ≡ false
failure_final u s = search (by_way (λ r. its s 22 r ≡ false)) depth 12 fits 3000

figure_final : (phase v kind total s : ℕ) → eqb v s ≡ false → its s 22 (claim_figure phase v kind total) ≡ false
figure_final phase v kind total s f = search (by_way (λ r. its s 22 r ≡ false)) depth 12 fits 3000

module _ (p q : Requests) (s : ℕ) (alike : has p.asked s ≡ has q.asked s) where
  invoke_final : (phase operation kind total : ℕ) → its s 22 (claim_invoke phase p operation kind total) ≡ its s 22 (claim_invoke phase q operation kind total)
  invoke_final phase operation kind total =
      by_number (service_of operation) s
      (λ e. rw (e, alike))
      (λ e. rw (one p phase operation kind total e, one q phase operation kind total e))
    where
      one : (r : Requests) (phase operation kind total : ℕ) → eqb (service_of operation) s ≡ false → its s 22 (claim_invoke phase r operation kind total) ≡ false
      one r phase operation kind total f = search (by_way (λ r. its s 22 r ≡ false), figure_final phase (service_of operation) kind total s f) depth 12 fits 3000

  pub claim_final : (phase kind : ℕ) (o : List ℕ) → its s 22 (claim_of phase p kind o) ≡ its s 22 (claim_of phase q kind o)
  claim_final =
      claim_alike (its s 22) p q invoke_final
      (λ id kind. result_final (holder_of p id) kind s ∙ sym (result_final (holder_of q id) kind s))
      (λ id. failure_final (holder_of p id) s ∙ sym (failure_final (holder_of q id) s))

-- ---- the holder of an identifier, where no two requests have one

apart_three : (a b c : Bool) → (a && b) ≡ false → (a && c) ≡ false → (b && c) ≡ false
    → (eqb (cond a 1 (cond b 2 (cond c 3 0))) 1 ≡ a) × (eqb (cond a 1 (cond b 2 (cond c 3 0))) 2 ≡ b) × (eqb (cond a 1 (cond b 2 (cond c 3 0))) 3 ≡ c)
apart_three true true c ab ac bc = never (sym ab)
apart_three true false true ab ac bc = never (sym ac)
apart_three true false false ab ac bc = (refl, refl, refl)
apart_three false true true ab ac bc = never (sym bc)
apart_three false true false ab ac bc = (refl, refl, refl)
apart_three false false true ab ac bc = (refl, refl, refl)
apart_three false false false ab ac bc = (refl, refl, refl)

-- a request has an identifier
abbrev holds : Request → ℕ → Bool
holds q id = not (eqb q.mark 0) && eqb q.id id

not_both : (p q : Request) (id : ℕ) → clash p q ≡ false → (holds p id && holds q id) ≡ false
not_both p q id n =
    by_cases (eqb p.mark 0) (λ a. rw a)
    (λ a. by_cases (eqb q.mark 0) (λ b. rw (a, b) (and-false (eqb p.id id)))
    (λ b. by_number p.id id
    (λ e. by_number q.id id (λ f. never (sym (rw (a, b, e, f, eq-eqb id id refl) at n))) (λ f. rw (a, b, f) (and-false (eqb p.id id))))
    (λ e. rw (a, e))))

module _ (a b c : Request) (ab : clash a b ≡ false) (ac : clash a c ≡ false) (bc : clash b c ≡ false) (id : ℕ) where
  all_apart : (eqb (holder_of (three a b c) id) 1 ≡ holds a id) × (eqb (holder_of (three a b c) id) 2 ≡ holds b id) × (eqb (holder_of (three a b c) id) 3 ≡ holds c id)
  all_apart = apart_three (holds a id) (holds b id) (holds c id) (not_both a b id ab) (not_both a c id ac) (not_both b c id bc)

  -- the holder is a service exactly where it is, the request of that service being there alone
  pub holders : (eqb (holder_of (three a b c) id) 1 ≡ eqb (holder_of (sole 1 a) id) 1) × (eqb (holder_of (three a b c) id) 2 ≡ eqb (holder_of (sole 2 b) id) 2)
      × (eqb (holder_of (three a b c) id) 3 ≡ eqb (holder_of (sole 3 c) id) 3)
  holders = (
    all_apart.0 ∙ by_cases (holds a id) (λ t. rw t) (λ t. rw t),
    all_apart.1 ∙ by_cases (holds b id) (λ t. rw t) (λ t. rw t),
    all_apart.2 ∙ by_cases (holds c id) (λ t. rw t) (λ t. rw t),
  )

-- ---- a final is of D or E

abbrev OfFinals : Outcome → Type 0
OfFinals r = was 22 r ≡ true → (2 ≤ r.service) × (r.service ≤ 3)

figure_service : (phase s kind total : ℕ) → 2 ≤ s → s ≤ 3 → OfFinals (claim_figure phase s kind total)
figure_service phase s kind total low high =
    by_way OfFinals (eqb s S) _ _ (λ w. never w)
    (by_way OfFinals (runs_by phase s kind total) _ _ (λ w. never w)
    (by_way OfFinals (closes_by phase s kind total) _ _ (λ w. (low, high)) (λ w. never w)))

charge_service : (phase operation kind total : ℕ) → OfFinals (claim_figure phase (service_of operation) kind total)
charge_service phase operation kind total =
    by_cases (leb operation 32) (λ a. rw a (λ w. never w))
    (λ a. by_cases (leb operation 34) (λ b. rw (a, b) (figure_service phase 2 kind total (omega arith) (omega arith))) (λ b. rw (a, b) (figure_service phase 3 kind total (omega arith) (omega arith))))

frame_service : (phase : ℕ) (q : Requests) (f : Front) (kind total : ℕ) → OfFinals (claim_frame phase q f kind total)
frame_service phase q f kind total =
    by_way OfFinals (eqb f.frame 1) _ _
    (by_way OfFinals (eqb f.operation 30) _ _ (λ w. never w)
    (by_way OfFinals (has q.asked (service_of f.operation)) _ _ (λ w. never w)
    (by_way OfFinals (eqb kind 0) _ _ (λ w. never w) (charge_service phase f.operation kind total))))
    (by_way OfFinals (eqb f.frame 2) _ _
    (by_way OfFinals (eqb (holder_of q f.id) 0) _ _ (λ w. never w) (by_way OfFinals (fits_by (holder_of q f.id) kind) _ _ (λ w. never w) (λ w. never w)))
    (by_way OfFinals (eqb f.unnamed 1) _ _ (λ w. never w) (by_way OfFinals (eqb (holder_of q f.id) 0) _ _ (λ w. never w) (λ w. never w))))

pub claim_service : (phase : ℕ) (q : Requests) (kind : ℕ) (o : List ℕ) → OfFinals (claim_of phase q kind o)
unfolding claim_of claim_record is_refusal
claim_service phase q kind o =
    by_way OfFinals (eqb kind Component && allowed kind phase) _ _
    (by_cases (eqb (read_of o).number 0)
    (λ z. rw z (by_way OfFinals (eqb phase Suspended) _ _ (λ w. never w)
    (frame_service phase q (read_of o).value.front (read_of o).value.charge.figure.kind (read_of o).value.charge.figure.total)))
    (λ z. rw z (λ w. never (sym (refused_apart o 22 z refl) ∙ w))))
    (λ w. never w)

-- ---- the outcome of any event

pub component_outcome : (k : Known) (e : Event) (o : List ℕ) (r : Outcome) → e.kind ≡ Component → r ≡ claim_of k.phase k.pending e.kind o → compared k r (charge_in o) ≡ judge k e o
unfolding claim_of
component_outcome k e o r c is =
    by_cases (eqb e.kind Component && allowed e.kind k.phase)
    (λ h. rw is (sym (judge_claim k e o h)))
    (λ h. let a : allowed e.kind k.phase ≡ false = rw (eq-eqb e.kind Component c) at h in rw (is, judge_other k e o h, h, a) refl)

pub phase_outcome : (k : Known) (e : Event) (o : List ℕ) → (e.kind ≡ Component → ⊥) → (moving_of (bare k.phase) e).outcome ≡ judge k e o
unfolding moving_of judge
phase_outcome k e o n =
    by_cases (allowed e.kind k.phase)
    (λ p. by_cases (eqb e.kind Setup && clashes e) (λ q. rw (p, q, ne_eqb e.kind Component n)) (λ q. rw (p, q, ne_eqb e.kind Component n)))
    (λ p. rw p)
