-- Going over the list once finds what the rules over the list say.
use Rattle.prelude.proofs.Prelude.{ℕ, suc, ◌+◌, ◌-◌, ◌/◌, ◌≡◌, refl, sym, ap, ◌∙◌, List, [], ◌∷◌, length, take, drop}
use Rattle.phases.specs.{declared.Event.Event, Phases.Given}
use Rattle.account.{specs.History.Judged, specs.History.judged, proofs.Demand.step_stands}
use Rattle.events.specs.{Events.row_at, Events.count_at, Events.events_of, inner.Prefix.place_at, inner.Prefix.octets_at, inner.Prefix.given_at, inner.Prefix.before}
use Rattle.events.proofs.Prefix.{before_next, before_count, all_before, part_at}
use Rattle.why_rules.specs.{Reasons.explained, Reasons.reason_of, inner.Seeing.concluded}
use Rattle.why.specs.{declared.State.State, inner.Seeing.turn_of, inner.Seeing.state_by}

-- a state that stands for a history goes on to one that stands for the history with the event
turn_stands : (h : List Given) (g : Given) → turn_of (state_by (judged h)) g.event g.octets (length (judged h) + 1) ≡ state_by (judged (g ∷ h))
unfolding turn_of
turn_stands h g = rw (step_stands h g) refl

judged_count : (h : List Given) → length (judged h) ≡ length h
judged_count [] = refl
judged_count (g ∷ h) = ap suc (judged_count h)

-- ---- the loop

module _ (rows octets : List ℕ) where
  abbrev history : ℕ → List Judged
  history i = judged (before rows octets i)

  -- (the code's place, count and row are at, n and e)
  pub run_next : (i : ℕ) {at n : ℕ} {e : Event} {t r : State} → at ≡ place_at rows i → n ≡ count_at rows i → e ≡ row_at rows i → t ≡ state_by (history i)
      → r ≡ turn_of t e (take (at + n - at) (drop at octets)) (i + 1) → r ≡ state_by (history (i + 1))
  run_next i p m z s q =
      let count : i ≡ length (history i) = sym (judged_count (before rows octets i) ∙ before_count rows octets i) in
      q
      ∙ rw (part_at rows octets i p m, s, z, before_next rows octets i)
      (ap (λ (x : ℕ). turn_of (state_by (history i)) (row_at rows i) (octets_at rows octets i) (x + 1)) count
      ∙ turn_stands (before rows octets i) (given_at rows octets i))

  pub run_ends : (i : ℕ) (t : State) → i ≡ length rows / 6 → t ≡ state_by (history i)
      → concluded t.account.status.phase t.seen ≡ reason_of (events_of rows octets)
  unfolding reason_of explained
  run_ends i t e s =
      ap (λ (x : State). concluded x.account.status.phase x.seen) s
      ∙ ap (λ (x : ℕ). explained (history x)) e ∙ ap (λ (l : List Given). explained (judged l)) (all_before rows octets)
