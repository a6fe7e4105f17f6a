-- One operation on the table: its answer and what it leaves are what the rules say over what the reference holds, and no other reference sees it.
use Rattle.prelude.proofs.Prelude.{ℕ, suc, ◌-◌, ◌<◌, ◌≡◌, refl, sym, ◌∙◌, ap, subst, List, [], ◌∷◌, Bool, true, false, cond, Option, none, some, eqb}
use Rattle.prelude.proofs.{Prelude.{eqb-false, arith, length, get_or, set, length-set}, Ways.by_cases}
use lib.Seq.{get_or-set_same, get_or-set_other, set-get_or}
use Rattle.phases.specs.{Phases.Given, Phases.Ended, Phases.no_service, declared.Outcome.Outcome}
use Rattle.coding.specs.Reader.{among}
use Rattle.outcomes.specs.Outcome.{was, judge}
use Rattle.account.{specs.declared.Account.Account, specs.History.judged, specs.History.known, specs.History.phase, specs.History.closing}
use Rattle.account.{specs.History.account_by, specs.History.fresh, specs.History.stepped_by}
use Rattle.account.{specs.Step.stepped_of, specs.Step.closing_of, proofs.Demand.step_stands, proofs.Demand.closing_stands}
use Rattle.board_rules.specs.declared.Board.{Board}
use Rattle.board_rules.specs.Board.{uncollected, key_of, lowest, held_in, is_held, is_full, call_of, with_slot, Boarded, boarded, admitted, updated, event_on, Emptied, emptied, collect_on}
use Rattle.board_rules.specs.Board.{view_on}
use Rattle.board_rules.specs.Calls.{Operation, happens, collects, views, reference_of, Answer, outcome, collected, answer_number, answer_on, next_on, is_setup, carried, calls_after, ruling}
use Rattle.board_rules.proofs.Slots.{found, kept_among, kept_lowest, new_among, new_lowest, none_free, held_more, held_less, differ, differ_free, differ_new, gone}

-- what every table has that is reached from the fresh one
pub record Sound (b : Board) : Type 0 where
  pub keys : length b.keys ≡ 64
  pub calls : length b.calls ≡ 64
  pub different : differ b.keys ≡ true

-- the account that a reference holds, or none
abbrev pub view : ℕ → Board → Option Account
view r b = cond (is_held r b) (some (call_of r b)) none

-- the account of a call's events
abbrev pub view_by : List Given → Option Account
view_by [] = none
view_by (g ∷ l) = some (account_by (judged (g ∷ l)))

no_key : (r : ℕ) → key_of r ≡ 0 → ⊥
no_key r q = omega arith

apart_keys : (j r : ℕ) → (j ≡ r → ⊥) → key_of j ≡ key_of r → ⊥
apart_keys j r n q = n (omega arith)

-- ---- another key and account in a slot

-- a reference whose key is neither the old nor the new one
put_other : (b : Board) (i k : ℕ) (a : Account) (j : ℕ) → (key_of j ≡ k → ⊥) → (key_of j ≡ get_or b.keys i 0 → ⊥) → view j (with_slot b i k a) ≡ view j b
put_other b i k a j n o =
    by_cases (is_held j b)
    (λ h. let at : lowest (key_of j) b.keys ≡ i → ⊥ = λ z. o (sym (found (key_of j) b.keys h).1 ∙ ap (λ m. get_or b.keys m 0) z) in
    rw (kept_among (key_of j) b.keys i k n o, kept_lowest (key_of j) b.keys i k n o, h)
    (ap some (get_or-set_other b.calls i (lowest (key_of j) b.keys) a fresh at)))
    (λ h. rw (kept_among (key_of j) b.keys i k n o, h) refl)

module _ (b : Board) (s : Sound b) (r : ℕ) (a : Account) where
  -- a Setup in the lowest free slot
  module _ (h : is_held r b ≡ false) (f : among 0 b.keys ≡ true) where
    abbrev slot : ℕ
    slot = lowest 0 b.keys

    abbrev taken : Board
    taken = with_slot b slot (key_of r) a

    inside : slot < 64
    inside = omega (arith, (found 0 b.keys f).0, s.keys)

    pub take_view : view r taken ≡ some a
    take_view =
        rw (new_among b.keys slot (key_of r) (found 0 b.keys f).0, new_lowest b.keys slot (key_of r) (found 0 b.keys f).0 h)
        (ap some (get_or-set_same b.calls slot a fresh (omega (arith, inside, s.calls))))

    pub take_other : (j : ℕ) → (j ≡ r → ⊥) → view j taken ≡ view j b
    take_other j n = put_other b slot (key_of r) a j (apart_keys j r n) (λ z. no_key j (z ∙ (found 0 b.keys f).1))

    pub take_sound : Sound taken
    take_sound = record {
      keys = length-set b.keys slot (key_of r) ∙ s.keys;
      calls = length-set b.calls slot a ∙ s.calls;
      different = differ_new b.keys slot (key_of r) h s.different;
    }

    pub take_count : held_in taken.keys ≡ suc (held_in b.keys)
    take_count = held_more b.keys slot (key_of r) (found 0 b.keys f).0 (found 0 b.keys f).1 (λ z. no_key r (sym z))

  -- in the slot that the reference holds
  module _ (h : is_held r b ≡ true) where
    abbrev mine : ℕ
    mine = lowest (key_of r) b.keys

    there : mine < 64
    there = omega (arith, (found (key_of r) b.keys h).0, s.keys)

    same_keys : set b.keys mine (key_of r) ≡ b.keys
    same_keys = ap (set b.keys mine) (sym (found (key_of r) b.keys h).1) ∙ set-get_or b.keys mine 0

    pub step_view : view r (with_slot b mine (key_of r) a) ≡ some a
    step_view = rw (same_keys, h) (ap some (get_or-set_same b.calls mine a fresh (omega (arith, there, s.calls))))

    pub step_other : (j : ℕ) → (j ≡ r → ⊥) → view j (with_slot b mine (key_of r) a) ≡ view j b
    step_other j n = put_other b mine (key_of r) a j (apart_keys j r n) (λ z. apart_keys j r n (z ∙ (found (key_of r) b.keys h).1))

    pub step_sound : Sound (with_slot b mine (key_of r) a)
    step_sound = record { keys = ap length same_keys ∙ s.keys; calls = length-set b.calls mine a ∙ s.calls; different = ap differ same_keys ∙ s.different }

    pub step_count : held_in (with_slot b mine (key_of r) a).keys ≡ held_in b.keys
    step_count = ap held_in same_keys

    -- freed
    pub free_view : view r (with_slot b mine 0 a) ≡ none
    free_view = rw (gone (key_of r) b.keys (no_key r) s.different) refl

    pub free_other : (j : ℕ) → (j ≡ r → ⊥) → view j (with_slot b mine 0 a) ≡ view j b
    free_other j n = put_other b mine 0 a j (no_key j) (λ z. apart_keys j r n (z ∙ (found (key_of r) b.keys h).1))

    pub free_sound : Sound (with_slot b mine 0 a)
    free_sound = record { keys = length-set b.keys mine 0 ∙ s.keys; calls = length-set b.calls mine a ∙ s.calls; different = differ_free b.keys mine s.different }

    pub free_count : suc (held_in (with_slot b mine 0 a).keys) ≡ held_in b.keys
    free_count = held_less b.keys mine (found (key_of r) b.keys h).0 (λ z. no_key r (sym (z ∙ (found (key_of r) b.keys h).1)))

-- ---- fewer than 64 slots are held only where one is free

pub none_full_lem : (b : Board) → Sound b → is_full b ≡ false → among 0 b.keys ≡ true
none_full_lem b s q = by_cases (among 0 b.keys) (λ f. f) (λ f. absurd (eqb-false (held_in b.keys) 64 q (none_free b.keys f ∙ s.keys)))

-- ---- what a view tells

not_held : (t : Bool) (a : Account) → cond t (some a) none ≡ none → t ≡ false
not_held true a q = cc
not_held false a q = refl

it_holds : (t : Bool) (a c : Account) → cond t (some a) none ≡ some c → t ≡ true
it_holds true a c q = refl
it_holds false a c q = cc

its_account : (t : Bool) (a c : Account) → cond t (some a) none ≡ some c → a ≡ c
its_account true a c q = cc
its_account false a c q = cc

-- ---- one operation

-- a reference's operation x, answered as y, where the reference's call had the events l and n calls were held
pub record Went (b : Board) (n : ℕ) (l : List Given) (x : Operation) : Type 0 where
  pub answer : answer_on b x ≡ ruling n l x
  pub holds : view (reference_of x) (next_on b x) ≡ view_by (carried x (answer_number (ruling n l x)) l)
  pub other : (j : ℕ) → (j ≡ reference_of x → ⊥) → view j (next_on b x) ≡ view j b
  pub count : held_in (next_on b x).keys ≡ calls_after x (answer_number (ruling n l x)) n
  pub sound : Sound (next_on b x)

-- the table after it is d
turns : (b : Board) (n : ℕ) (l : List Given) (x : Operation) (d : Board) → next_on b x ≡ d → answer_on b x ≡ ruling n l x → view (reference_of x) d ≡ view_by (carried x (answer_number (ruling n l x)) l)
    → ((j : ℕ) → (j ≡ reference_of x → ⊥) → view j d ≡ view j b) → held_in d.keys ≡ calls_after x (answer_number (ruling n l x)) n → Sound d → Went b n l x
turns b n l x d next answer holds other count sound = record {
  answer = answer;
  holds = ap (view (reference_of x)) next ∙ holds;
  other = λ j z. ap (view j) next ∙ other j z;
  count = ap (λ (d : Board). held_in d.keys) next ∙ count;
  sound = subst Sound (sym next) sound;
}

-- nothing changes
stays : (b : Board) (n : ℕ) (l : List Given) (x : Operation) → Sound b → held_in b.keys ≡ n → view (reference_of x) b ≡ view_by l → answer_on b x ≡ ruling n l x → next_on b x ≡ b
    → carried x (answer_number (ruling n l x)) l ≡ l → calls_after x (answer_number (ruling n l x)) n ≡ n → Went b n l x
stays b n l x s c v answer next same count = turns b n l x b next answer (v ∙ ap view_by (sym same)) (λ j z. refl) (c ∙ sym count) s

-- which of two, by a test that is known
pub yes : {A : Type 0} (t : Bool) (x y : A) → t ≡ true → cond t x y ≡ x
yes t x y q = rw q refl

pub no : {A : Type 0} (t : Bool) (x y : A) → t ≡ false → cond t x y ≡ y
no t x y q = rw q refl

-- ---- what an operation does, case by case

module _ (b : Board) (r : ℕ) where
  pub collect_none : is_held r b ≡ false → collect_on b r ≡ emptied (uncollected 37) b
  unfolding collect_on
  collect_none h = rw h refl

  pub collect_early : is_held r b ≡ true → eqb (call_of r b).status.phase Ended ≡ false → collect_on b r ≡ emptied (uncollected 14) b
  unfolding collect_on
  collect_early h e = rw (h, e) refl

  pub collect_now : is_held r b ≡ true → eqb (call_of r b).status.phase Ended ≡ true
      → collect_on b r ≡ emptied (record { number = 0; closing = closing_of (call_of r b) }) (with_slot b (lowest (key_of r) b.keys) 0 fresh)
  unfolding collect_on
  collect_now h e = yes _ _ _ h ∙ yes _ _ _ e

  module _ (g : Given) where
    abbrev pub On : Boarded → Type 0
    On u = event_on b r g.event g.octets ≡ u

    pub setup_held : is_setup g ≡ true → is_held r b ≡ true → On (boarded (no_service 35) b)
    unfolding event_on
    setup_held k h = yes _ _ _ k ∙ yes _ _ _ h

    pub setup_full_lem : is_setup g ≡ true → is_held r b ≡ false → is_full b ≡ true → On (boarded (no_service 36) b)
    unfolding event_on
    setup_full_lem k h f = yes _ _ _ k ∙ no _ _ _ h ∙ yes _ _ _ f

    pub setup_new : is_setup g ≡ true → is_held r b ≡ false → is_full b ≡ false → On (admitted b r (stepped_of fresh g.event g.octets))
    unfolding event_on
    setup_new k h f = yes _ _ _ k ∙ no _ _ _ h ∙ no _ _ _ f

    pub other_held : is_setup g ≡ false → is_held r b ≡ true → On (updated b r (stepped_of (call_of r b) g.event g.octets))
    unfolding event_on
    other_held k h = no _ _ _ k ∙ yes _ _ _ h

    pub other_none : is_setup g ≡ false → is_held r b ≡ false → On (boarded (no_service 37) b)
    unfolding event_on
    other_none k h = no _ _ _ k ∙ no _ _ _ h

module _ (b : Board) (n : ℕ) (s : Sound b) (c : held_in b.keys ≡ n) (r : ℕ) where
  views_went : (l : List Given) → view r b ≡ view_by l → Went b n l (views r)
  unfolding view_on
  views_went [] v = stays b n [] (views r) s c v (rw (not_held (is_held r b) (call_of r b) v) refl) refl refl refl
  views_went (g ∷ l) v =
      stays b n (g ∷ l) (views r) s c v
      (rw (it_holds (is_held r b) (call_of r b) _ v, its_account (is_held r b) (call_of r b) _ v) refl) refl refl refl

  abbrev Off : Emptied → Type 0
  Off u = collect_on b r ≡ u

  collects_went : (l : List Given) → view r b ≡ view_by l → Went b n l (collects r)
  collects_went [] v =
      let z : Off (emptied (uncollected 37) b) = collect_none b r (not_held (is_held r b) (call_of r b) v) in
      stays b n [] (collects r) s c v (ap (λ (u : Emptied). collected u.answer) z) (ap (λ (u : Emptied). u.board) z) refl refl
  collects_went (g ∷ l) v =
      let h : is_held r b ≡ true = it_holds (is_held r b) (call_of r b) _ v in
      let a : call_of r b ≡ account_by (judged (g ∷ l)) = its_account (is_held r b) (call_of r b) _ v in
      let q : eqb (call_of r b).status.phase Ended ≡ eqb (phase (judged (g ∷ l))) Ended = ap (λ (u : Account). eqb u.status.phase Ended) a in
      by_cases (eqb (phase (judged (g ∷ l))) Ended)
      (λ e. let z : Off (emptied (record { number = 0; closing = closing_of (call_of r b) }) (with_slot b (lowest (key_of r) b.keys) 0 fresh)) = collect_now b r h (q ∙ e) in
      let y : ruling n (g ∷ l) (collects r) ≡ collected (record { number = 0; closing = closing (judged (g ∷ l)) }) = yes _ _ _ e in
      let m : answer_number (ruling n (g ∷ l) (collects r)) ≡ 0 = ap answer_number y in
      turns b n (g ∷ l) (collects r) (with_slot b (lowest (key_of r) b.keys) 0 fresh) (ap (λ (u : Emptied). u.board) z)
      (ap (λ (u : Emptied). collected u.answer) z ∙ ap (λ f. collected (record { number = 0; closing = f })) (ap closing_of a ∙ closing_stands (g ∷ l)) ∙ sym y)
      (free_view b s r fresh h ∙ sym (ap (λ i. view_by (carried (collects r) i (g ∷ l))) m)) (free_other b s r fresh h)
      (let y = free_count b s r fresh h in let x : held_in (set b.keys (lowest (key_of r) b.keys) 0) ≡ n - 1 = omega (arith, y, c) in x
      ∙ sym (ap (λ i. calls_after (collects r) i n) m)) (free_sound b s r fresh h))
      (λ e. let z : Off (emptied (uncollected 14) b) = collect_early b r h (q ∙ e) in
      let y : ruling n (g ∷ l) (collects r) ≡ collected (uncollected 14) = no _ _ _ e in
      let m : answer_number (ruling n (g ∷ l) (collects r)) ≡ 14 = ap answer_number y in
      stays b n (g ∷ l) (collects r) s c v (ap (λ (u : Emptied). collected u.answer) z ∙ sym y) (ap (λ (u : Emptied). u.board) z)
      (ap (λ i. carried (collects r) i (g ∷ l)) m) (ap (λ i. calls_after (collects r) i n) m))

  module _ (g : Given) where
    abbrev told : (u : Boarded) → On b r g u → answer_on b (happens r g) ≡ outcome u.outcome
    told u z = ap (λ (u : Boarded). outcome u.outcome) z

    abbrev left : (u : Boarded) → On b r g u → next_on b (happens r g) ≡ u.board
    left u z = ap (λ (u : Boarded). u.board) z

    abbrev num : List Given → ℕ
    num l = answer_number (ruling n l (happens r g))

    -- a Setup with another number than 0, and any other event, begin no call
    not_counted : (m : ℕ) → is_setup g ≡ true → eqb m 0 ≡ false → calls_after (happens r g) m n ≡ n
    not_counted m k q = rw (k, q) refl

    counted_other : (m : ℕ) → is_setup g ≡ false → calls_after (happens r g) m n ≡ n
    counted_other m k = rw k refl

    counted_new : (m : ℕ) → is_setup g ≡ true → eqb m 0 ≡ true → calls_after (happens r g) m n ≡ suc n
    counted_new m k q = rw (k, q) refl

    carried_other : (m : ℕ) (f : Given) (l : List Given) → is_setup g ≡ false → carried (happens r g) m (f ∷ l) ≡ g ∷ f ∷ l
    carried_other m f l k = no _ _ _ k

    not_carried : (m : ℕ) (l : List Given) → is_setup g ≡ true → eqb m 0 ≡ false → carried (happens r g) m l ≡ l
    not_carried m l k q = yes _ _ _ k ∙ no _ _ _ q

    carried_new : (m : ℕ) (l : List Given) → is_setup g ≡ true → eqb m 0 ≡ true → carried (happens r g) m l ≡ g ∷ []
    carried_new m l k q = yes _ _ _ k ∙ yes _ _ _ q

    other_went : is_setup g ≡ false → (l : List Given) → view r b ≡ view_by l → Went b n l (happens r g)
    other_went k [] v =
        let z : On b r g (boarded (no_service 37) b) = other_none b r g k (not_held (is_held r b) (call_of r b) v) in
        stays b n [] (happens r g) s c v (told _ z ∙ sym (no _ _ _ k)) (left _ z) (no _ _ _ k) (counted_other (num []) k)
    other_went k (f ∷ l) v =
        let h : is_held r b ≡ true = it_holds (is_held r b) (call_of r b) _ v in
        let a : call_of r b ≡ account_by (judged (f ∷ l)) = its_account (is_held r b) (call_of r b) _ v in
        let w : stepped_of (call_of r b) g.event g.octets ≡ stepped_by g (f ∷ l) = ap (λ (u : Account). stepped_of u g.event g.octets) a ∙ step_stands (f ∷ l) g in
        let z : On b r g (updated b r (stepped_by g (f ∷ l))) = other_held b r g k h ∙ ap (updated b r) w in
        let new : Account = account_by (judged (g ∷ f ∷ l)) in
        turns b n (f ∷ l) (happens r g) (with_slot b (lowest (key_of r) b.keys) (key_of r) new)
        (left _ z) (told _ z ∙ sym (no _ _ _ k))
        (step_view b s r new h ∙ sym (ap view_by (carried_other (num (f ∷ l)) f l k))) (step_other b s r new h) (step_count b s r new h ∙ c
        ∙ sym (counted_other (num (f ∷ l)) k)) (step_sound b s r new h)

    setup_went : is_setup g ≡ true → (l : List Given) → view r b ≡ view_by l → Went b n l (happens r g)
    setup_went k [] v =
        let h : is_held r b ≡ false = not_held (is_held r b) (call_of r b) v in
        let w : stepped_of fresh g.event g.octets ≡ stepped_by g [] = step_stands [] g in
        by_cases (eqb n 64)
        (λ f. let z : On b r g (boarded (no_service 36) b) = setup_full_lem b r g k h (ap (λ m. eqb m 64) c ∙ f) in
        let y : ruling n [] (happens r g) ≡ outcome (no_service 36) = yes _ _ _ k ∙ yes _ _ _ f in
        let m : eqb (answer_number (ruling n [] (happens r g))) 0 ≡ false = ap (λ (a : Answer). eqb (answer_number a) 0) y in
        stays b n [] (happens r g) s c v (told _ z ∙ sym y) (left _ z) (not_carried (num []) [] k m) (not_counted (num []) k m))
        (λ f. let full : is_full b ≡ false = ap (λ m. eqb m 64) c ∙ f in
        let free : among 0 b.keys ≡ true = none_full_lem b s full in
        let j : Outcome = judge (known (judged [])) g.event g.octets in
        let x : On b r g (admitted b r (stepped_by g [])) = setup_new b r g k h full ∙ ap (admitted b r) w in
        let y : ruling n [] (happens r g) ≡ outcome j = yes _ _ _ k ∙ no _ _ _ f in
        by_cases (was 0 j)
        (λ q. let z : On b r g (boarded j (with_slot b (lowest 0 b.keys) (key_of r) (account_by (judged (g ∷ []))))) = x ∙ yes _ _ _ q in
        let m : eqb (answer_number (ruling n [] (happens r g))) 0 ≡ true = ap (λ (a : Answer). eqb (answer_number a) 0) y ∙ q in
        let new : Account = account_by (judged (g ∷ [])) in
        turns b n [] (happens r g) (with_slot b (lowest 0 b.keys) (key_of r) new)
        (left _ z) (told _ z ∙ sym y)
        (take_view b s r new h free ∙ sym (ap view_by (carried_new (num []) [] k m))) (take_other b s r new h free)
        (take_count b s r new h free ∙ ap suc c ∙ sym (counted_new (num []) k m)) (take_sound b s r new h free))
        (λ q. let z : On b r g (boarded j b) = x ∙ no _ _ _ q in
        let m : eqb (answer_number (ruling n [] (happens r g))) 0 ≡ false = ap (λ (a : Answer). eqb (answer_number a) 0) y ∙ q in
        stays b n [] (happens r g) s c v (told _ z ∙ sym y) (left _ z) (not_carried (num []) [] k m) (not_counted (num []) k m)))
    setup_went k (f ∷ l) v =
        let z : On b r g (boarded (no_service 35) b) = setup_held b r g k (it_holds (is_held r b) (call_of r b) _ v) in
        let y : ruling n (f ∷ l) (happens r g) ≡ outcome (no_service 35) = yes _ _ _ k in
        let m : eqb (answer_number (ruling n (f ∷ l) (happens r g))) 0 ≡ false = ap (λ (a : Answer). eqb (answer_number a) 0) y in
        stays b n (f ∷ l) (happens r g) s c v (told _ z ∙ sym y) (left _ z) (not_carried (num (f ∷ l)) (f ∷ l) k m) (not_counted (num (f ∷ l)) k m)

pub goes : (b : Board) (n : ℕ) (l : List Given) (x : Operation) → Sound b → held_in b.keys ≡ n → view (reference_of x) b ≡ view_by l → Went b n l x
goes b n l (happens r g) s c v = by_cases (is_setup g) (λ k. setup_went b n s c r g k l v) (λ k. other_went b n s c r g k l v)
goes b n l (collects r) s c v = collects_went b n s c r l v
goes b n l (views r) s c v = views_went b n s c r l v
