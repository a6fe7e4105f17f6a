-- Any list of operations from a fresh table: each answer is that of the rules over the reference's own call, and no other call changes it.
use Rattle.prelude.proofs.Prelude.{ℕ, zero, suc, ◌<◌, ◌≡◌, refl, sym, ◌∙◌, ap, subst, List, [], ◌∷◌, Bool, true, false, not, cond, none, eqb, eqb-true}
use Rattle.prelude.proofs.{Prelude.{eqb-false, eq-eqb, ne_eqb, not-true, arith, get_or, replicate, length-replicate, ◌↔◌, ◌⊎◌, inl, inr}, Ways.by_cases}
use Rattle.phases.specs.{Phases.Given, Phases.no_service, Phases.Setup, Phases.clashes, Phases.allowed, declared.Outcome.Outcome}
use Rattle.phases.{proofs.Choice.by_number, proofs.Choice.never, proofs.Choice.first_of, proofs.Choice.second_of}
use Rattle.coding.specs.Reader.{among}
use Rattle.outcomes.specs.Outcome.{was, judge}
use Rattle.account.{specs.History.fresh, specs.History.judged, specs.History.known, specs.History.account_by, proofs.Demand.step_stands}
use Rattle.board_rules.specs.declared.Board.{Board}
use Rattle.board_rules.specs.Board.{key_of, lowest, held_in, is_held, is_full, fresh_board, with_slot, Boarded, boarded, admitted}
use Rattle.board_rules.specs.Calls.{Operation, happens, collects, views, reference_of, Answer, outcome, answer_number, Done, did, answer_on, next_on, run_on, after_all, is_setup, carried}
use Rattle.board_rules.specs.Calls.{present, calls, ruling, ruled_all, own, own_done, setup_full, none_full, ruled_alone}
use Rattle.board_rules.proofs.Slots.{one_slot, found, none_lower}
use Rattle.board_rules.proofs.Table.{yes, no, Sound, view, view_by, none_full_lem, setup_held, setup_full_lem, setup_new, goes}

-- ---- a table that stands for what was done, the latest first

pub record Stands (b : Board) (h : List Done) : Type 0 where
  pub sound : Sound b
  pub count : held_in b.keys ≡ calls h
  pub holds : (r : ℕ) → view r b ≡ view_by (present r h)

no_zeros : (k n : ℕ) → (k ≡ 0 → ⊥) → among k (replicate n 0) ≡ false
no_zeros k zero q = refl
no_zeros k (suc n) q = rw (ne_eqb k 0 q) (no_zeros k n q)

pub fresh_stands : Stands fresh_board []
unfolding held_in
fresh_stands = record {
  sound = record { keys = length-replicate {A = ℕ} 64 0; calls = length-replicate 64 fresh; different = refl };
  count = refl;
  holds = λ r. rw (no_zeros (key_of r) 64 (λ q. omega arith)) refl;
}

-- what the rules add to the list
abbrev next : List Done → Operation → Done
next h x = did x (ruling (calls h) (present (reference_of x) h) x)

next_stands : (b : Board) (h : List Done) (x : Operation) → Stands b h → Stands (next_on b x) (next h x ∷ h)
next_stands b h x s =
    let w = goes b (calls h) (present (reference_of x) h) x s.sound s.count (s.holds (reference_of x)) in
    record {
      sound = w.sound;
      count = w.count;
      holds = λ r. by_number (reference_of x) r
          (λ e. subst (λ (j : ℕ). view j (next_on b x) ≡ view_by (present j (next h x ∷ h))) e (w.holds ∙ sym (ap view_by (mine h x))))
          (λ e. w.other r (λ z. eqb-false (reference_of x) r e (sym z)) ∙ s.holds r ∙ sym (ap view_by (others h x r e)));
    }
  where
    mine : (h : List Done) (x : Operation) → present (reference_of x) (next h x ∷ h) ≡ carried x (answer_number (ruling (calls h) (present (reference_of x) h) x)) (present (reference_of x) h)
    mine h x = rw (eq-eqb (reference_of x) (reference_of x) refl) refl

    others : (h : List Done) (x : Operation) (r : ℕ) → eqb (reference_of x) r ≡ false → present r (next h x ∷ h) ≡ present r h
    others h x r e = rw e refl

-- ---- the answers are those of the rules

run_ruled : (b : Board) (h : List Done) (l : List Operation) → Stands b h → run_on b l ≡ ruled_all h l
run_ruled b h [] s = refl
run_ruled b h (x ∷ l) s =
    let w = goes b (calls h) (present (reference_of x) h) x s.sound s.count (s.holds (reference_of x)) in
    ap (λ (a : Answer). did x a ∷ run_on (next_on b x) l) w.answer ∙ ap (λ (m : List Done). next h x ∷ m) (run_ruled (next_on b x) (next h x ∷ h) l (next_stands b h x s))

pub by_rules : (l : List Operation) → run_on fresh_board l ≡ ruled_all [] l
by_rules l = run_ruled fresh_board [] l fresh_stands

-- ---- after any operations from a fresh table

-- what was done, with what the rules add for more operations
abbrev pub done_after : List Done → List Operation → List Done
done_after h [] = h
done_after h (x ∷ l) = done_after (next h x ∷ h) l

stands_after : (b : Board) (h : List Done) (l : List Operation) → Stands b h → Stands (after_all b l) (done_after h l)
stands_after b h [] s = s
stands_after b h (x ∷ l) s = stands_after (next_on b x) (next h x ∷ h) l (next_stands b h x s)

module _ (e : List Operation) where
  stands : Stands (after_all fresh_board e) (done_after [] e)
  stands = stands_after fresh_board [] e fresh_stands

  pub reached_sound : Sound (after_all fresh_board e)
  reached_sound = stands.sound

  pub rules_after : (l : List Operation) → run_on (after_all fresh_board e) l ≡ ruled_all (done_after [] e) l
  rules_after l = run_ruled (after_all fresh_board e) (done_after [] e) l stands

  -- a reference that the table does not hold has no call in what was done
  pub none_held : (r : ℕ) → is_held r (after_all fresh_board e) ≡ false → present r (done_after [] e) ≡ []
  none_held r q = no_view (present r (done_after [] e)) (sym (stands.holds r) ∙ no _ _ _ q)
    where
      no_view : (p : List Given) → view_by p ≡ none → p ≡ []
      no_view [] z = refl
      no_view (g ∷ l) z = cc

-- ---- one call alone

-- unless a Setup is refused because the table is full, the answer does not hang on how many calls are held
pub same_ruled : (n : ℕ) (p : List Given) (x : Operation) → setup_full x (answer_number (ruling n p x)) ≡ false → ruling n p x ≡ ruling 0 p x
same_ruled n [] (happens r g) q =
    by_cases (is_setup g)
    (λ k. by_cases (eqb n 64)
    (λ f. let y : ruling n [] (happens r g) ≡ outcome (no_service 36) = yes _ _ _ k ∙ yes _ _ _ f in
    let z : setup_full (happens r g) 36 ≡ true = rw k refl in
    never (sym q ∙ ap (λ (a : Answer). setup_full (happens r g) (answer_number a)) y ∙ z))
    (λ f. yes _ _ _ k ∙ no _ _ _ f ∙ sym (yes _ _ _ k)))
    (λ k. no _ _ _ k ∙ sym (no _ _ _ k))
same_ruled n (f ∷ l) (happens r g) q = refl
same_ruled n p (collects r) q = refl
same_ruled n p (views r) q = refl

-- from any history: the answers of a reference hang on what it holds there and on its own operations
pub alone_from : (r : ℕ) (h : List Done) (l : List Operation) → none_full (own_done r (ruled_all h l)) ≡ true → own_done r (ruled_all h l) ≡ ruled_alone (present r h) (own r l)
alone_from r h [] q = refl
alone_from r h (x ∷ l) q =
    by_number (reference_of x) r
    (λ e. let d : Done = next h x in
    let t : eqb (reference_of x) r ≡ true = eq-eqb (reference_of x) r e in
    let z : own_done r (ruled_all h (x ∷ l)) ≡ d ∷ own_done r (ruled_all (d ∷ h) l) = yes _ _ _ t in
    let q' : none_full (d ∷ own_done r (ruled_all (d ∷ h) l)) ≡ true = ap none_full (sym z) ∙ q in
    let same : ruling (calls h) (present (reference_of x) h) x ≡ ruling 0 (present r h) x =
    same_ruled (calls h) (present (reference_of x) h) x (not-true (setup_full x (answer_number d.answer)) (first_of (not (setup_full x (answer_number d.answer))) (none_full (own_done r
    (ruled_all (d ∷ h) l))) q')) ∙ ap (λ j. ruling 0 (present j h) x) e in
    let mine : present r (d ∷ h) ≡ carried x (answer_number (ruling 0 (present r h) x)) (present r h) =
    yes _ _ _ t ∙ ap (λ (a : Answer). carried x (answer_number a) (present r h)) same in
    z ∙ ap (λ (a : Answer). did x a ∷ own_done r (ruled_all (d ∷ h) l)) same
    ∙ ap (λ (m : List Done). did x (ruling 0 (present r h) x) ∷ m) (alone_from r (d ∷ h) l (second_of (not (setup_full x (answer_number d.answer))) (none_full (own_done r (ruled_all
    (d ∷ h) l))) q') ∙ ap (λ (p : List Given). ruled_alone p (own r l)) mine)
    ∙ sym (ap (ruled_alone (present r h)) (yes (eqb (reference_of x) r) (x ∷ own r l) (own r l) t)))
    (λ e. let d : Done = next h x in
    let z : own_done r (ruled_all h (x ∷ l)) ≡ own_done r (ruled_all (d ∷ h) l) = no _ _ _ e in
    z ∙ alone_from r (d ∷ h) l (ap none_full (sym z) ∙ q)
    ∙ ap (λ (p : List Given). ruled_alone p (own r l)) (no (eqb (reference_of x) r) (carried x (answer_number d.answer) (present r h)) (present r h) e)
    ∙ sym (ap (ruled_alone (present r h)) (no (eqb (reference_of x) r) (x ∷ own r l) (own r l) e)))

-- a reference's answers are those of its own operations alone
pub alone : (r : ℕ) (l : List Operation) → none_full (own_done r (run_on fresh_board l)) ≡ true → own_done r (run_on fresh_board l) ≡ ruled_alone [] (own r l)
alone r l q = ap (own_done r) (by_rules l) ∙ alone_from r [] l (ap (λ (m : List Done). none_full (own_done r m)) (sym (by_rules l)) ∙ q)

-- two runs with the same operations for one reference give it the same answers, whatever the others did, if none of its Setups was refused 36 in either
pub isolation : (r : ℕ) (l m : List Operation) → own r l ≡ own r m → none_full (own_done r (run_on fresh_board l)) ≡ true → none_full (own_done r (run_on fresh_board m)) ≡ true
    → own_done r (run_on fresh_board l) ≡ own_done r (run_on fresh_board m)
isolation r l m e p q = alone r l p ∙ ap (ruled_alone []) e ∙ sym (alone r m q)

-- the same from any two histories in which the reference's call has had the same events, or holds nothing in either
pub isolation_from : (r : ℕ) (h k : List Done) (l m : List Operation) → present r h ≡ present r k → own r l ≡ own r m
    → none_full (own_done r (ruled_all h l)) ≡ true → none_full (own_done r (ruled_all k m)) ≡ true
    → own_done r (ruled_all h l) ≡ own_done r (ruled_all k m)
isolation_from r h k l m s e p q =
    alone_from r h l p ∙ ap (λ (c : List Given). ruled_alone c (own r l)) s ∙ ap (ruled_alone (present r k)) e ∙ sym (alone_from r k m q)

-- so of a reference that is used again: after any operations that leave it free, its next calls are answered alike, whatever came before
pub isolation_again : (r : ℕ) (e f l m : List Operation) → is_held r (after_all fresh_board e) ≡ false → is_held r (after_all fresh_board f) ≡ false → own r l ≡ own r m
    → none_full (own_done r (run_on (after_all fresh_board e) l)) ≡ true → none_full (own_done r (run_on (after_all fresh_board f) m)) ≡ true
    → own_done r (run_on (after_all fresh_board e) l) ≡ own_done r (run_on (after_all fresh_board f) m)
isolation_again r e f l m s t q p p' =
    ap (own_done r) (rules_after e l)
    ∙ isolation_from r (done_after [] e) (done_after [] f) l m (none_held e r s ∙ sym (none_held f r t)) q
    (ap (λ (d : List Done). none_full (own_done r d)) (sym (rules_after e l)) ∙ p) (ap (λ (d : List Done). none_full (own_done r d)) (sym (rules_after f m)) ∙ p')
    ∙ ap (own_done r) (sym (rules_after f m))

-- ---- every table that is reached

-- no two slots are held by one reference
pub held_once : (l : List Operation) (i j : ℕ) → (get_or (after_all fresh_board l).keys i 0 ≡ 0 → ⊥) → get_or (after_all fresh_board l).keys i 0 ≡ get_or (after_all fresh_board l).keys j 0 → i ≡ j
held_once l = one_slot (after_all fresh_board l).keys (reached_sound l).different

-- ---- 36 exactly when 64 slots are held; a Setup takes the lowest free slot

module _ (b : Board) (r : ℕ) (g : Given) (k : is_setup g ≡ true) where
  -- a Setup that reaches 01's checks is 13 or 0
  setup_number : ((judge (known (judged [])) g.event g.octets).number ≡ 13) ⊎ ((judge (known (judged [])) g.event g.octets).number ≡ 0)
  unfolding judge allowed
  setup_number = rw (eqb-true g.event.kind Setup k) (by_cases (clashes g.event) (λ t. inl (rw t refl)) (λ t. inr (rw t refl)))

  -- its number where the reference is not held and the table is not full
  reaches : is_held r b ≡ false → is_full b ≡ false → answer_number (answer_on b (happens r g)) ≡ (judge (known (judged [])) g.event g.octets).number
  reaches h f =
      ap (λ (u : Boarded). u.outcome.number) (setup_new b r g k h f ∙ ap (admitted b r) (step_stands [] g)) ∙ either (was 0 (judge (known (judged [])) g.event g.octets)) _ _ _
    where
      either : (t : Bool) (o : Outcome) (c d : Board) → (cond t (boarded o c) (boarded o d)).outcome.number ≡ o.number
      either true o c d = refl
      either false o c d = refl

  pub full_36 : is_held r b ≡ false → (answer_number (answer_on b (happens r g)) ≡ 36) ↔ (held_in b.keys ≡ 64)
  full_36 h = (
    (λ q. by_number (held_in b.keys) 64 (λ e. e) (λ e. other setup_number (sym (reaches h e) ∙ q))),
    (λ q. ap (λ (u : Boarded). u.outcome.number) (setup_full_lem b r g k h (eq-eqb (held_in b.keys) 64 q))),
  )
    where
      other : {P : Type 0} {m : ℕ} → (m ≡ 13) ⊎ (m ≡ 0) → m ≡ 36 → P
      other (inl e) q = absurd (omega (arith, e, q))
      other (inr e) q = absurd (omega (arith, e, q))

  -- the lowest free slot: it is free, and each slot below it is held
  pub takes_lowest : Sound b → answer_number (answer_on b (happens r g)) ≡ 0
      → (next_on b (happens r g) ≡ with_slot b (lowest 0 b.keys) (key_of r) (account_by (judged (g ∷ [])))) × (get_or b.keys (lowest 0 b.keys) 0 ≡ 0)
      × ((i : ℕ) → i < lowest 0 b.keys → get_or b.keys i 0 ≡ 0 → ⊥)
  takes_lowest s q =
      by_cases (is_held r b)
      (λ h. let z : 35 ≡ 0 = sym (ap (λ (u : Boarded). u.outcome.number) (setup_held b r g k h)) ∙ q in absurd (omega (arith, z)))
      (λ h. by_cases (is_full b)
      (λ f. let z : 36 ≡ 0 = sym (ap (λ (u : Boarded). u.outcome.number) (setup_full_lem b r g k h f)) ∙ q in absurd (omega (arith, z)))
      (λ f. let z : was 0 (judge (known (judged [])) g.event g.octets) ≡ true = eq-eqb _ 0 (sym (reaches h f) ∙ q) in
      (ap (λ (u : Boarded). u.board) (setup_new b r g k h f ∙ ap (admitted b r) (step_stands [] g) ∙ yes _ _ _ z), (found 0 b.keys (none_full_lem b s f)).1, none_lower 0 b.keys)))
