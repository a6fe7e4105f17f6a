-- Going back over the list finds what the rules over the list say, and so does the short way.
use Rattle.prelude.proofs.Prelude.{ℕ, ◌+◌, ◌-◌, ◌≡◌, refl, sym, ◌∙◌, ap, List, [], ◌∷◌, Bool, true, false, ◌&&◌, cond, eqb, ltb, take, drop}
use Rattle.phases.{specs.declared.Event.Event, specs.declared.Outcome.Outcome, specs.Phases.Given, proofs.Choice.never}
use Rattle.prelude.proofs.Ways.{by_cases}
use Rattle.types.specs.{declared.Answer.Answer, declared.Currency.Currency, Frames.read_of, Thousandths.thousandths}
use Rattle.amounts.{specs.Currency.equal_currency, proofs.Currencies.symmetric, proofs.Currencies.transitive}
use Rattle.account.{specs.History.Judged, specs.History.any, specs.History.last, specs.History.judged, specs.declared.Stepped.Stepped, proofs.Demand.step_stands}
use Rattle.events.{specs.Events.row_at, specs.Events.count_at, specs.inner.Prefix.place_at, specs.inner.Prefix.given_at, specs.inner.Prefix.before}
use Rattle.events.{proofs.Prefix.before_next, proofs.Prefix.part_at}
use Rattle.fault_rules.specs.{Figures.invokes_d, inner.Breaking.money_by}
use Rattle.fault.specs.{declared.State.State, declared.Last.Last, Rules.charge_by, Rules.is_counted_money, Rules.below_last}
use Rattle.fault.specs.inner.Going.{no_last, last_next, last_by, judging, turn_of, state_by, latest_next, latest_by, other_by, decided_by, short_by}

-- ---- the rule by what is found

pub below_found : (c : Currency) (t : ℕ) (h : List Judged) → below_last c t h ≡ (eqb (last_by c h).found 1 && ltb t (last_by c h).amount)
below_found c t [] = refl
below_found c t (j ∷ h) =
    by_cases (is_counted_money j && equal_currency (charge_by j).figure.money.currency c) (λ q. rw q refl) (λ q. rw q (below_found c t h))

-- ---- the short way

latest_decides : (c : Currency) (h : List Judged) → any is_counted_money h ≡ true → equal_currency (last is_counted_money h).figure.money.currency c ≡ true
    → last_by c h ≡ record { found = 1; amount = thousandths (last is_counted_money h).figure.money }
latest_decides c [] q e = never q
latest_decides c (j ∷ h) q e =
    by_cases (is_counted_money j)
    (λ t. let d : equal_currency (charge_by j).figure.money.currency c ≡ true = rw t at e in rw (t, d) refl)
    (λ t. rw t (latest_decides c h (rw t at q) (rw t at e)))

-- where no amount was counted, nothing is found and there is no other
none_counted : (c : Currency) (h : List Judged) → any is_counted_money h ≡ false → (last_by c h ≡ no_last) × ((other_by h).found ≡ 0)
none_counted c [] q = (refl, refl)
none_counted c (j ∷ h) q =
    by_cases (is_counted_money j)
    (λ t. let z : true ≡ false = rw t at q in never (sym z))
    (λ t. rw t (none_counted c h (rw t at q)))

-- a currency that is not equal to one is not equal to another that is equal to it
unequal : (b c d : Currency) → equal_currency b c ≡ true → equal_currency c d ≡ false → equal_currency b d ≡ false
unequal b c d e n = by_cases (equal_currency b d) (λ q. never (sym n ∙ transitive c b d (symmetric b c e) q)) (λ q. q)

-- where the latest is in another currency, the other decides as the latest does
other_decides : (c : Currency) (h : List Judged) → any is_counted_money h ≡ true → equal_currency (last is_counted_money h).figure.money.currency c ≡ false
    → decided_by (other_by h) c (last_by c h) ≡ last_by c h
other_decides c [] q n = never q
other_decides c (j ∷ h) q n =
    by_cases (is_counted_money j)
    (λ t. let d : equal_currency (charge_by j).figure.money.currency c ≡ false = rw t at n in
    by_cases (any is_counted_money h)
    (λ a. by_cases (equal_currency (last is_counted_money h).figure.money.currency (charge_by j).figure.money.currency)
    (λ e. rw (t, d, a, e) (other_decides c h a (unequal _ _ c e d)))
    (λ e. rw (t, d, a, e)
    (by_cases (equal_currency (last is_counted_money h).figure.money.currency c) (λ s. rw s (sym (latest_decides c h a s))) (λ s. rw s refl))))
    (λ a. rw (t, d, a, (none_counted c h a).1, (none_counted c h a).0) refl))
    (λ t. rw t (other_decides c h (rw t at q) (rw t at n)))

pub short_way : (c : Currency) (h : List Judged) → short_by (latest_by h) (other_by h) c h ≡ last_by c h
short_way c h =
    by_cases (any is_counted_money h)
    (λ t. by_cases (equal_currency (last is_counted_money h).figure.money.currency c)
    (λ e. rw (t, e) (sym (latest_decides c h t e)))
    (λ e. rw (t, e) (other_decides c h t e)))
    (λ t. rw t (sym (none_counted c h t).0))

pub latest_stands : (j : Judged) (h : List Judged)
    → latest_next (latest_by h) (invokes_d j.event.kind (read_of j.octets).value.front) (charge_by j).figure.kind (charge_by j).figure.money j.outcome
    ≡ latest_by (j ∷ h)
latest_stands j h = by_cases (is_counted_money j) (λ t. rw t refl) (λ t. rw t refl)

-- ---- the loop: a state that stands for a history goes on to one that stands for the history with the event

turn_stands : (c : Currency) (h : List Given) (g : Given) → turn_of (state_by c (judged h)) c g.event g.octets ≡ state_by c (judged (g ∷ h))
unfolding turn_of
turn_stands c h g =
    ap (λ (w : Stepped). record { account = w.account; last = last_next (last_by c (judged h)) c (judging g.event g.octets w.outcome) }) (step_stands h g)

-- (the code's place, count and row are at, n and e)
pub back_next : (rows octets : List ℕ) (c : Currency) (i : ℕ) {at n : ℕ} {e : Event} {t r : State} → at ≡ place_at rows i → n ≡ count_at rows i → e ≡ row_at rows i
    → t ≡ state_by c (judged (before rows octets i)) → r ≡ turn_of t c e (take (at + n - at) (drop at octets))
    → r ≡ state_by c (judged (before rows octets (i + 1)))
back_next rows octets c i p q z s w =
    w ∙ rw (part_at rows octets i p q, s, z, before_next rows octets i) (turn_stands c (before rows octets i) (given_at rows octets i))

-- ---- what an event leaves as the last amount, by what the code reads and tests

pub last_by_lem : (l : Last) (c : Currency) (e : Event) (o : List ℕ) (r : Outcome) {a : Answer} {d b s : Bool} → a ≡ read_of o
    → d ≡ invokes_d e.kind a.value.front → b ≡ money_by d a.value.charge.figure.kind r
    → s ≡ equal_currency a.value.charge.figure.money.currency c
    → last_next l c (judging e o r) ≡ cond (b && s) (record { found = 1; amount = thousandths a.value.charge.figure.money }) l
last_by_lem l c e o r read of-d counted same = sym (rw (same, counted, of-d, read) refl)
