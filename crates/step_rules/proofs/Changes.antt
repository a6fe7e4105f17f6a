-- The step by value, by its parts.
use Rattle.prelude.proofs.{Prelude.{ℕ, ◌≡◌, refl, sym, ◌∙◌, ap, List, true, false, ◌&&◌, eqb, eq-eqb, ne_eqb}, Ways.by_cases}
use Rattle.std.proofs.Common.{Option, Some, None, is_some}
use Rattle.phases.{proofs.Choice.if_same, specs.declared.Event.Event, specs.declared.Outcome.Outcome, specs.declared.Status.Status}
use Rattle.phases.{specs.Phases.Setup, specs.Phases.Component, specs.Phases.no_service, specs.Phases.clashes, specs.Phases.allowed, specs.Phases.Given, specs.Phases.event}
use Rattle.phases.{specs.inner.ByNumber.next_phase, specs.inner.ByNumber.moving_of}
use Rattle.types.specs.{declared.Record.Record, declared.Answer.Answer, Arguments.no_charge, Frames.read_of}
use Rattle.account.{specs.declared.Account.Account, specs.declared.Change.Change, specs.History.judged, specs.History.account_by, specs.History.stepped_by}
use Rattle.account.{specs.Step.known_of, specs.Step.change_by, specs.Step.change_of, specs.Step.changed, specs.Step.stepped_of, proofs.Demand.step_stands, proofs.Demand.notes_nothing}
use Rattle.account.{proofs.Demand.keeps_nothing}
use Rattle.outcomes.{specs.Outcome.is_refusal, specs.Outcome.judge_answer, specs.Outcome.judge, specs.Status.requests_of, specs.Status.noted}
use Rattle.outcomes.specs.declared.Place.{Place}
use Rattle.outcomes.{specs.Status.place_of, specs.inner.ByNumber.claim_record, proofs.Refusals.decoding_refusal, proofs.Claims.resolves}
use Rattle.step_rules.specs.inner.Inner.{resolved, taken}

abbrev claim : Account → Record → Outcome
claim a x = claim_record a.status.phase (requests_of a.status) x.front x.charge.figure.kind x.charge.figure.total

-- ---- a component

-- a change that keeps no figure
abbrev pub unkept : Outcome → Status → Change
unkept r t = record { outcome = r; place = None; status = t; charge = no_charge }

module _ (a : Account) (o : List ℕ) (x : Answer) (read : x ≡ read_of o) where
  pub taken_refused : (x.number ≡ 0 → ⊥) → unkept (no_service x.number) a.status ≡ taken a (read_of o)
  unfolding is_refusal
  taken_refused z =
      let r : Outcome = no_service x.number in
      let not_read : eqb x.number 0 ≡ false = ne_eqb x.number 0 z in
      let q : is_refusal x.number ≡ true = rw read (decoding_refusal o (rw read at not_read)) in
      sym (rw (not_read, notes_nothing is_refusal refl r q a.status) (keeps_nothing is_refusal refl r q a.status x.value.charge)) ∙ ap (taken a) read

  -- an outcome and a status of what was read
  module _ (z : x.number ≡ 0) {c r : Outcome} {t : Status} (is-claim : c ≡ claim a x.value) (is-outcome : r ≡ resolved a c x.value.charge) (is-status : t ≡ noted a.status r) where
    taken_is : change_by r t x.value.charge ≡ taken a (read_of o)
    taken_is =
        let is : r ≡ judge_answer (known_of a) x =
        is-outcome ∙ ap (λ (y : Outcome). resolved a y x.value.charge) is-claim ∙ resolves (known_of a) x.value ∙ sym (simp (eq-eqb x.number 0 z)) in
        rw is-status (ap (λ (y : Outcome). change_by y (noted a.status y) x.value.charge) is) ∙ ap (taken a) read

    pub taken_unkept : place_of r ≡ None → unkept r t ≡ taken a (read_of o)
    taken_unkept q = sym (rw q) ∙ taken_is

    pub taken_kept : (p : Place) → place_of r ≡ Some p → record { outcome = r; place = Some p; status = t; charge = x.value.charge } ≡ taken a (read_of o)
    taken_kept p q = sym (rw q) ∙ taken_is

-- ---- an event that is no component

-- it changes the status alone, whatever the rest of the account is
pub phase_change : (a : Account) (e : Event) (o : List ℕ) → (e.kind ≡ 5 → ⊥) → unkept (moving_of a.status e).outcome (moving_of a.status e).status ≡ change_of a e o
unfolding change_of judge moving_of
phase_change a e o n =
    by_cases (allowed e.kind a.status.phase)
    (λ p. by_cases (eqb e.kind Setup && clashes e) (λ q. rw (p, q, ne_eqb e.kind 5 n)) (λ q. rw (p, q, ne_eqb e.kind 5 n)))
    (λ p. rw (p, ne_eqb e.kind 5 n))

-- ---- a component

pub is_allowed : (k p : ℕ) {n : Option ℕ} → n ≡ next_phase k p → is_some n ≡ allowed k p
is_allowed k p q = rw q (by_cases (allowed k p) (λ t. rw t) (λ t. rw t))

module _ (a : Account) (e : Event) (o : List ℕ) (c : e.kind ≡ Component) where
  pub not_allowed : allowed e.kind a.status.phase ≡ false → unkept (no_service 14) a.status ≡ change_of a e o
  unfolding judge change_of
  not_allowed q = sym (rw q (simp if_same))

  pub heard : allowed e.kind a.status.phase ≡ true → taken a (read_of o) ≡ change_of a e o
  unfolding judge change_of
  heard q = sym (rw (q, eq-eqb e.kind Component c))

-- ---- what is promised of the step

-- over the list, where the account stands for a history
pub by_list : (a : Account) (e : Event) (o : List ℕ) {w : Change} → w ≡ change_of a e o → (h : List Given) → a ≡ account_by (judged h) → changed a w ≡ stepped_by (event e o) h
unfolding stepped_of
by_list a e o q h s = ap (changed a) q ∙ ap (λ (b : Account). stepped_of b e o) s ∙ step_stands h (event e o)
