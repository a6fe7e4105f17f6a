-- What the table of transitions says. A rule of the table is one test over its rows, which is computed; one law turns it into the rule of every event in every phase.
use Rattle.prelude.proofs.Prelude.{ℕ, zero, suc, ◌≤◌, ◌<◌, ◌+◌, ◌*◌, ◌/◌, ◌%◌, ◌^◌, ◌≡◌, refl, sym, ◌∙◌, List, [], ◌∷◌, Bool, true, false, not, ◌&&◌, ◌||◌, eqb, leb, get_or, arith, eqb-true}
use Rattle.prelude.proofs.{Prelude.leb-true, Ways.by_cases}
use Rattle.octets.{specs.Each.each, proofs.Each.each_fails}
use Rattle.phases.specs.Phases.{Idle, Ended, Setup, Released, Component, Transition, goes, transitions, is_for, allowed_by, leads_by, allowed, leads_to}
use Rattle.phases.specs.inner.ByNumber.{led_to}
use Rattle.phases.proofs.Choice.{first_of, second_of, implied, never}

abbrev every : (Transition → Bool) → List Transition → Bool
every q [] = true
every q (r ∷ l) = q r && every q l

-- ---- the law: what each row passes holds of an event that is allowed, its phase, and the phase that it leads to

its_row : (q : Transition → Bool) (r : Transition) (k p : ℕ) → is_for r k p ≡ true → q r ≡ true → q (goes k p r.to) ≡ true
its_row q r k p m t =
    let e : r.event ≡ k = eqb-true _ _ (first_of (eqb r.event k) (eqb r.from p) m) in
    let f : r.from ≡ p = eqb-true _ _ (second_of (eqb r.event k) (eqb r.from p) m) in
    rw (← e, ← f) t

row_rule : (q : Transition → Bool) (l : List Transition) (k p : ℕ) → every q l ≡ true → allowed_by l k p ≡ true → q (goes k p (leads_by l k p)) ≡ true
row_rule q [] k p t a = never a
row_rule q (r ∷ l) k p t a =
    by_cases (is_for r k p)
    (λ m. rw m (its_row q r k p m (first_of (q r) (every q l) t)))
    (λ m. rw m (row_rule q l k p (second_of (q r) (every q l) t) (rw m at a)))

row_none : (l : List Transition) (k p : ℕ) → allowed_by l k p ≡ false → leads_by l k p ≡ p
row_none [] k p a = refl
row_none (r ∷ l) k p a =
    by_cases (is_for r k p)
    (λ m. never (sym (rw m at a)))
    (λ m. rw m (row_none l k p (rw m at a)))

rule : (q : Transition → Bool) → every q transitions ≡ true → (k p : ℕ) → allowed k p ≡ true → q (goes k p (leads_to k p)) ≡ true
unfolding allowed leads_to
rule q t k p = row_rule q transitions k p t

stays : (k p : ℕ) → allowed k p ≡ false → leads_to k p ≡ p
unfolding allowed leads_to
stays = row_none transitions

-- ---- nothing leads to Idle

pub to_idle : (k p : ℕ) → leads_to k p ≡ Idle → p ≡ Idle
to_idle k p q =
    by_cases (allowed k p)
    (λ a. never (rw q at (rule (λ r. not (eqb r.to Idle)) refl k p a)))
    (λ a. sym (stays k p a) ∙ q)

-- ---- nothing leaves Ended

pub from_ended : (k p : ℕ) → p ≡ Ended → allowed k p ≡ false
from_ended k p q =
    by_cases (allowed k p)
    (λ a. never (rw q at (rule (λ r. not (eqb r.from Ended)) refl k p a)))
    (λ a. a)

-- ---- Setup alone leaves Idle, and it leaves no other phase

pub from_idle : (k p : ℕ) → p ≡ Idle → eqb k Setup ≡ false → allowed k p ≡ false
from_idle k p q s =
    by_cases (allowed k p)
    (λ a. never (rw (q, s) at (rule (λ r. not (eqb r.from Idle) || eqb r.event Setup) refl k p a)))
    (λ a. a)

pub setup_idle : (k p : ℕ) → allowed k p ≡ true → eqb k Setup ≡ true → p ≡ Idle
setup_idle k p a s = eqb-true p Idle (implied (eqb k Setup) (eqb p Idle) s (rule (λ r. not (eqb r.event Setup) || eqb r.from Idle) refl k p a))

-- ---- Released alone leads to Ended

pub to_ended : (k p : ℕ) → eqb k Released ≡ false → eqb p Ended ≡ false → eqb (leads_to k p) Ended ≡ false
to_ended k p r n =
    by_cases (eqb (leads_to k p) Ended)
    (λ t. by_cases (allowed k p)
    (λ a. never (sym r ∙ implied (eqb (leads_to k p) Ended) (eqb k Released) t (rule (λ x. not (eqb x.to Ended) || eqb x.event Released) refl k p a)))
    (λ a. never (sym n ∙ rw (stays k p a) at t)))
    (λ t. t)

-- ---- a Component leads nowhere

pub component_stays : (p : ℕ) → leads_to Component p ≡ p
component_stays p =
    by_cases (allowed Component p)
    (λ a. eqb-true _ _ (rule (λ r. not (eqb r.event Component) || eqb r.to r.from) refl Component p a))
    (stays Component p)

-- ---- the two questions in one: Idle where an event is not allowed

pub next_none : (k p n : ℕ) → n ≡ led_to k p → n ≡ Idle → allowed k p ≡ false
next_none k p n e z =
    by_cases (allowed k p)
    (λ a. let q : leads_to k p ≡ Idle = sym (rw a at e) ∙ z in never (rw q at (rule (λ r. not (eqb r.to Idle)) refl k p a)))
    (λ a. a)

pub next_some : (k p n : ℕ) → n ≡ led_to k p → (n ≡ Idle → ⊥) → (allowed k p ≡ true) × (n ≡ leads_to k p)
next_some k p n e z = by_cases (allowed k p) (λ a. (a, rw a at e)) (λ a. absurd (z (rw a at e)))

-- ---- the same as a number for each kind: its digit to the base 16 at a phase is where the kind leads from there

pub past_kind : (k p : ℕ) → 7 < k → led_to k p ≡ 0
past_kind k p h =
    by_cases (allowed k p)
    (λ a. let q : k ≤ 7 = leb-true _ _ (rule (λ r. leb r.event 7) refl k p a) in absurd (omega arith))
    (λ a. rw a)

pub past_phase : (k p : ℕ) → 7 < p → led_to k p ≡ 0
past_phase k p h =
    by_cases (allowed k p)
    (λ a. let q : p ≤ 7 = leb-true _ _ (rule (λ r. leb r.from 7) refl k p a) in absurd (omega arith))
    (λ a. rw a)

-- the digits of a kind from a phase on, n of them; the numbers of all eight kinds
abbrev digits : ℕ → ℕ → ℕ → ℕ
digits k p zero = 0
digits k p (suc n) = led_to k p + digits k (suc p) n * 16

abbrev rows : ℕ → ℕ → List ℕ
rows k zero = []
rows k (suc n) = digits k 0 8 ∷ rows (suc k) n

abbrev pub by_kind : List ℕ
by_kind = rows 0 8

-- each digit is right, by computing it
abbrev right : ℕ → Bool
right i = eqb (get_or by_kind (i / 8) 0 / 2 ^ (i % 8 * 4) % 16) (led_to (i / 8) (i % 8))

all_right : each 64 right ≡ true
unfolding allowed leads_to
all_right = refl

pub look_up : (k p : ℕ) → k ≤ 7 → p ≤ 7 → get_or by_kind k 0 / 2 ^ (p * 4) % 16 ≡ led_to k p
look_up k p hk hp =
    let i : ℕ = k * 8 + p in
    let kind : i / 8 ≡ k = omega arith in
    let phase : i % 8 ≡ p = omega arith in
    by_cases (right i)
    (λ e. rw (kind, phase) at (eqb-true (get_or by_kind (i / 8) 0 / 2 ^ (i % 8 * 4) % 16) (led_to (i / 8) (i % 8)) e))
    (λ f. never (sym (each_fails 64 right i (omega arith) f) ∙ all_right))
