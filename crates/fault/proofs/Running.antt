-- Going over the list once finds what the rules over the list say.
use Rattle.prelude.proofs.Prelude.{ℕ, suc, ◌+◌, ◌-◌, ◌/◌, ◌≡◌, refl, sym, ◌∙◌, ap, ap₂, List, [], ◌∷◌, Bool, true, false, not, ◌&&◌, ◌||◌, cond, length, eqb, take, drop}
use Rattle.types.specs.{declared.Currency.Currency, Charges.flag, Frames.read_of}
use Rattle.phases.{specs.declared.Event.Event, specs.Phases.Given, proofs.Choice.by_number}
use Rattle.prelude.proofs.Ways.{by_cases}
use Rattle.account.{specs.History.Judged, specs.History.any, specs.History.judged, specs.History.known, specs.History.phase, specs.declared.Stepped.Stepped, proofs.Demand.step_stands}
use Rattle.outcomes.specs.Outcome.{judge}
use Rattle.events.{specs.Earliest.or_else, specs.Events.row_at, specs.Events.count_at, specs.Events.events_of, specs.inner.Prefix.place_at, specs.inner.Prefix.octets_at, specs.inner.Prefix.given_at, specs.inner.Prefix.before}
use Rattle.events.proofs.Prefix.{before_next, before_count, all_before, part_at}
use Rattle.fault_rules.specs.{declared.FaultAnswer.FaultAnswer, declared.Seen.Seen, inner.Breaking.breaks_by, inner.Breaking.concluded, Figures.fault_answer}
use Rattle.fault.specs.{declared.Progress.Progress, declared.Last.Last, declared.Latest.Latest}
use Rattle.fault.specs.Rules.{charge_by, is_d, is_counted_money, is_counted_free, breaks, all_kept, refused_in, broken_in, fault_in, fault_of}
use Rattle.fault.specs.{inner.Going.judging, inner.Going.latest_by, inner.Going.other_by, inner.Going.short_by, inner.Running.falls_by, inner.Running.seen_on, inner.Running.next_by, inner.Running.next_of, inner.Running.seen_by, inner.Running.progress_by}
use Rattle.fault.proofs.Back.{below_found, short_way, latest_stands}

-- ---- one event more

flag_is : (b : Bool) → eqb (flag b) 1 ≡ b
flag_is true = refl
flag_is false = refl

free_more : (a b : Bool) → cond a 1 (flag b) ≡ flag (a || b)
free_more true b = refl
free_more false b = refl

module _ (f : FaultAnswer) (b n : ℕ) where
  abbrev more : FaultAnswer
  more = cond (eqb f.rule 0) (cond (eqb b 0) all_kept (fault_answer 0 b n)) f

  rule_more : cond (eqb f.rule 0) b f.rule ≡ more.rule
  rule_more = by_cases (eqb f.rule 0) (λ q. by_number b 0 (λ e. rw (q, e) refl) (λ e. rw (q, e) refl)) (λ q. rw q refl)

  event_more : cond (eqb f.rule 0) (or_else 0 (not (eqb b 0)) n) f.event ≡ more.event
  event_more = by_cases (eqb f.rule 0) (λ q. by_cases (eqb b 0) (λ e. rw (q, e) refl) (λ e. rw (q, e) refl)) (λ q. rw q refl)

module _ (j : Judged) (h : List Judged) where
  abbrev currency : Currency
  currency = (charge_by j).figure.money.currency

  same_rule : breaks_by (is_d j) (phase h) (charge_by j) j.outcome (eqb (seen_by h).free 1) (falls_by (is_d j) (charge_by j) j.outcome (short_by (latest_by h) (other_by h) currency h))
      ≡ breaks j h
  same_rule =
      ap₂ (λ (x y : Bool). breaks_by (is_d j) (phase h) (charge_by j) j.outcome x y) (flag_is (any is_counted_free h))
      (ap (λ (l : Last). falls_by (is_d j) (charge_by j) j.outcome l) (short_way currency h) ∙ ap (λ (x : Bool). is_counted_money j && x) (sym (below_found currency _ h)))

  -- what is seen, by the rule that is broken and the free mark
  abbrev seeing : ℕ → ℕ → Seen
  seeing b free = record {
    free = free;
    refused = refused_in (j ∷ h);
    event = cond (eqb (broken_in h).rule 0) (or_else 0 (not (eqb b 0)) (length h + 1)) (broken_in h).event;
    rule = cond (eqb (broken_in h).rule 0) b (broken_in h).rule;
  }

  seen_stands : seen_on (seen_by h) (phase h) (short_by (latest_by h) (other_by h) currency h) (is_d j) (charge_by j) j.outcome (length h + 1) ≡ seen_by (j ∷ h)
  seen_stands =
      ap₂ seeing same_rule (free_more (is_counted_free j) (any is_counted_free h))
      ∙ ap₂ (λ (x y : ℕ). record { free = flag (any is_counted_free (j ∷ h)); refused = refused_in (j ∷ h); event = x; rule = y })
      (event_more (broken_in h) (breaks j h) (length h + 1)) (rule_more (broken_in h) (breaks j h) (length h + 1))

next_stands : (h : List Given) (g : Given) → next_of (progress_by (judged h)) (judged h) g.event g.octets (length (judged h) + 1) ≡ progress_by (judged (g ∷ h))
unfolding next_of
next_stands h g =
    let j : Judged = judging g.event g.octets (judge (known (judged h)) g.event g.octets) in
    ap (λ (w : Stepped). next_by (progress_by (judged h)) (judged h) g.event (read_of g.octets).value (length (judged h) + 1) w) (step_stands h g)
    ∙ ap₂ (λ (s : Seen) (l : Latest). record { account = (progress_by (judged (g ∷ h))).account; seen = s; latest = l; other = (progress_by (judged (g ∷ h))).other })
    (seen_stands j (judged h)) (latest_stands j (judged h))

-- ---- the end

broken_zero : (h : List Judged) → fault_answer 0 (broken_in h).rule (broken_in h).event ≡ broken_in h
broken_zero [] = refl
broken_zero (j ∷ h) =
    by_cases (eqb (broken_in h).rule 0)
    (λ q. by_cases (eqb (breaks j h) 0) (λ e. rw (q, e) refl) (λ e. rw (q, e) refl))
    (λ q. rw q (broken_zero h))

ends : (h : List Judged) → concluded (seen_by h) ≡ fault_in h
unfolding fault_in
ends h = ap (λ (f : FaultAnswer). cond (eqb (refused_in h) 0) f (fault_answer 34 0 (refused_in h))) (broken_zero h)

-- ---- the list

judged_count : (h : List Given) → length (judged h) ≡ length h
judged_count [] = refl
judged_count (g ∷ h) = ap suc (judged_count h)

module _ (rows octets : List ℕ) where
  abbrev history : ℕ → List Judged
  history i = judged (before rows octets i)

  -- (the code's place, count and row are at, n and e)
  pub run_next : (i : ℕ) {at n : ℕ} {e : Event} {t r : Progress} → at ≡ place_at rows i → n ≡ count_at rows i → e ≡ row_at rows i → t ≡ progress_by (history i)
      → r ≡ next_of t (history i) e (take (at + n - at) (drop at octets)) (i + 1) → r ≡ progress_by (history (i + 1))
  run_next i p m z s q =
      let count : i ≡ length (history i) = sym (judged_count (before rows octets i) ∙ before_count rows octets i) in
      q
      ∙ rw (part_at rows octets i p m, s, z, before_next rows octets i)
      (ap (λ (x : ℕ). next_of (progress_by (history i)) (history i) (row_at rows i) (octets_at rows octets i) (x + 1)) count
      ∙ next_stands (before rows octets i) (given_at rows octets i))

  pub run_ends : (i : ℕ) (t : Progress) → i ≡ length rows / 6 → t ≡ progress_by (history i) → concluded t.seen ≡ fault_of (events_of rows octets)
  unfolding fault_of
  run_ends i t e s =
      ap (λ (x : Progress). concluded x.seen) s ∙ ends (history i)
      ∙ ap (λ (x : ℕ). fault_in (history x)) e ∙ ap (λ (l : List Given). fault_in (judged l)) (all_before rows octets)
