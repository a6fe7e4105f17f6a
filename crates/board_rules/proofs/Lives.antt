-- Demand 3 for a call of the table, in its own words: what a host reads after each event of the call is what the rules pick out of the call's list of events, those refused 35 left out.
use Rattle.prelude.proofs.{Prelude.{ℕ, ◌≡◌, refl, sym, ◌∙◌, ap, List, [], ◌∷◌, Bool, true, false, not, ◌&&◌, eqb, eq-eqb, arith}, Ways.by_cases}
use Rattle.phases.{specs.Phases.Given, specs.Phases.Ended, specs.Phases.no_service, specs.declared.Outcome.Outcome, proofs.Choice.by_number, proofs.Choice.never}
use Rattle.coding.proofs.Basic.{and_both}
use Rattle.outcomes.specs.Outcome.{judge}
use Rattle.account.specs.{declared.Closing.Closing, History.judged, History.known, History.current_rate, History.running, History.marks, History.Shown, History.shown}
use Rattle.account.specs.{History.phase, History.closing, History.picked}
use Rattle.account.proofs.Demand.{closing_stands}
use Rattle.board_rules.specs.Board.{uncollected, is_held, fresh_board, Boarded}
use Rattle.board_rules.specs.Calls.{Operation, happens, collects, views, reference_of, Answer, outcome, collected, answer_number, Done, did, answer_on, run_on, after_all, is_setup, is_open, carried, present, calls}
use Rattle.board_rules.specs.Calls.{ruling, ruled_all, ruled_alone, own, own_done, setup_full, none_full, watched, left_out, readings, no_setups}
use Rattle.board_rules.proofs.{Table.{yes, no, setup_held}, Rules.{done_after, rules_after, none_held, same_ruled, alone_from}}

module _ (r : ℕ) where
  -- what is read of an event that is answered a, and of the call's events q after it
  abbrev read_so : Given → List Given → Answer → List Given → List Shown
  read_so g l a q = readings (did (happens r g) a ∷ did (views r) (ruling 0 q (views r)) ∷ ruled_alone q (watched r l))

  -- an event that is no Setup, or the one that begins the call
  kept : (g : Given) (p l : List Given) → left_out (happens r g) (judge (known (judged p)) g.event g.octets).number ≡ false
      → read_so g l (outcome (judge (known (judged p)) g.event g.octets)) (g ∷ p) ≡ shown g p ∷ readings (ruled_alone (g ∷ p) (watched r l))
  kept g p l q = no _ _ _ q ∙ ap (λ (c : Closing). with_closing c ∷ readings (ruled_alone (g ∷ p) (watched r l))) (closing_stands (g ∷ p))
    where
      with_closing : Closing → Shown
      with_closing c = record {
        outcome = judge (known (judged p)) g.event g.octets;
        rate = current_rate (judged (g ∷ p));
        running = running (judged (g ∷ p));
        closing = c;
        marks = marks (judged (g ∷ p));
      }

  -- a Setup while the call is held is left out
  passed_over : (g f : Given) (p l : List Given) → is_setup g ≡ true → readings (ruled_alone (f ∷ p) (watched r (g ∷ l))) ≡ readings (ruled_alone (f ∷ p) (watched r l))
  passed_over g f p l k =
      let a : ruling 0 (f ∷ p) (happens r g) ≡ outcome (no_service 35) = yes _ _ _ k in
      let c : carried (happens r g) 35 (f ∷ p) ≡ f ∷ p = yes _ _ _ k in
      let o : left_out (happens r g) 35 ≡ true = ap (λ (b : Bool). b && true) k in
      ap (λ (x : Answer). read_so g l x (carried (happens r g) (answer_number x) (f ∷ p))) a ∙ ap (read_so g l (outcome (no_service 35))) c ∙ yes _ _ _ o

  -- any other event is read by the rules
  read_next : (g f : Given) (p l : List Given) → is_setup g ≡ false
      → readings (ruled_alone (f ∷ p) (watched r (g ∷ l))) ≡ shown g (f ∷ p) ∷ readings (ruled_alone (g ∷ f ∷ p) (watched r l))
  read_next g f p l k =
      let j : Outcome = judge (known (judged (f ∷ p))) g.event g.octets in
      let a : ruling 0 (f ∷ p) (happens r g) ≡ outcome j = no _ _ _ k in
      let c : carried (happens r g) j.number (f ∷ p) ≡ g ∷ f ∷ p = no _ _ _ k in
      let o : left_out (happens r g) j.number ≡ false = ap (λ (b : Bool). b && eqb j.number 35) k in
      ap (λ (x : Answer). read_so g l x (carried (happens r g) (answer_number x) (f ∷ p))) a ∙ ap (read_so g l (outcome j)) c ∙ kept g (f ∷ p) l o

  -- from any events that the call has had
  lives : (f : Given) (p l : List Given) → readings (ruled_alone (f ∷ p) (watched r l)) ≡ picked (f ∷ p) (no_setups l)
  lives f p [] = refl
  lives f p (g ∷ l) =
      by_cases {P = readings (ruled_alone (f ∷ p) (watched r (g ∷ l))) ≡ picked (f ∷ p) (no_setups (g ∷ l))} (is_setup g)
      (λ k. passed_over g f p l k ∙ lives f p l ∙ sym (ap (picked (f ∷ p)) (skips g l k)))
      (λ k. read_next g f p l k ∙ ap (λ (m : List Shown). shown g (f ∷ p) ∷ m) (lives g (f ∷ p) l) ∙ sym (ap (picked (f ∷ p)) (takes g l k)))
    where
      skips : (g : Given) (l : List Given) → is_setup g ≡ true → no_setups (g ∷ l) ≡ no_setups l
      skips g l k = yes _ _ _ k

      takes : (g : Given) (l : List Given) → is_setup g ≡ false → no_setups (g ∷ l) ≡ g ∷ no_setups l
      takes g l k = no _ _ _ k

  -- from the Setup that is accepted
  life : (g : Given) (l : List Given) → is_setup g ≡ true → (judge (known (judged [])) g.event g.octets).number ≡ 0 → readings (ruled_alone [] (watched r (g ∷ l))) ≡ picked [] (g ∷ no_setups l)
  life g l k z =
      let j : Outcome = judge (known (judged [])) g.event g.octets in
      let a : ruling 0 [] (happens r g) ≡ outcome j = yes _ _ _ k in
      let c : carried (happens r g) j.number [] ≡ g ∷ [] = yes _ _ _ k ∙ yes _ _ _ (eq-eqb j.number 0 z) in
      let o : left_out (happens r g) j.number ≡ false = ap (λ (n : ℕ). is_setup g && eqb n 35) z ∙ ap (λ (b : Bool). b && false) k in
      ap (λ (x : Answer). read_so g l x (carried (happens r g) (answer_number x) [])) a ∙ ap (read_so g l (outcome j)) c ∙ kept g [] l o ∙ ap (λ (m : List Shown). shown g [] ∷ m) (lives g [] l)

  -- ---- in any run, whatever the other references did and whatever was done before

  -- no collection among them
  abbrev uncollecting : List Operation → Bool
  uncollecting [] = true
  uncollecting (happens q g ∷ l) = uncollecting l
  uncollecting (collects q ∷ l) = false
  uncollecting (views q ∷ l) = uncollecting l

  watches : (l : List Given) → uncollecting (watched r l) ≡ true
  watches [] = refl
  watches (g ∷ l) = watches l

  -- while a call is held a Setup of its reference is 35, so none is 36; and it is held until it is collected
  held_on : (n : ℕ) (p : List Given) (x : Operation) (l : List Operation) → is_open p ≡ true → uncollecting (x ∷ l) ≡ true
      → (setup_full x (answer_number (ruling n p x)) ≡ false) × (is_open (carried x (answer_number (ruling n p x)) p) ≡ true) × (uncollecting l ≡ true)
  held_on n [] x l o u = never o
  held_on n (f ∷ p) (happens q g) l o u = by_cases (is_setup g) (λ k. (rw k refl, rw k refl, u)) (λ k. (rw k refl, rw k refl, u))
  held_on n (f ∷ p) (collects q) l o u = never u
  held_on n (f ∷ p) (views q) l o u = (refl, refl, u)

  never_full : (h : List Done) (m : List Operation) → is_open (present r h) ≡ true → uncollecting (own r m) ≡ true → none_full (own_done r (ruled_all h m)) ≡ true
  never_full h [] o u = refl
  never_full h (x ∷ m) o u =
      let d : Done = did x (ruling (calls h) (present (reference_of x) h) x) in
      by_number (reference_of x) r
      (λ e. let t : eqb (reference_of x) r ≡ true = eq-eqb (reference_of x) r e in
      let w = held_on (calls h) (present (reference_of x) h) x (own r m) (ap (λ j. is_open (present j h)) e ∙ o) (ap uncollecting (sym (yes (eqb (reference_of x) r) (x ∷ own r m) (own r m) t)) ∙ u) in
      let still : is_open (present r (d ∷ h)) ≡ true = ap is_open (yes _ _ _ t ∙ ap (λ j. carried x (answer_number d.answer) (present j h)) (sym e)) ∙ w.1 in
      ap none_full (yes (eqb (reference_of x) r) (d ∷ own_done r (ruled_all (d ∷ h) m)) _ t) ∙ and_both _ _ (ap not w.0) (never_full (d ∷ h) m still w.2))
      (λ e. let still : is_open (present r (d ∷ h)) ≡ true = ap is_open (no _ _ _ e) ∙ o in
      ap none_full (no (eqb (reference_of x) r) (d ∷ own_done r (ruled_all (d ∷ h) m)) _ e)
      ∙ never_full (d ∷ h) m still (ap uncollecting (sym (no (eqb (reference_of x) r) (x ∷ own r m) (own r m) e)) ∙ u))

  -- demand 3 from any point of a call: after any history in which it has had the events f ∷ p, what is read goes on as the rules pick it out
  pub call_goes_on : (h : List Done) (m : List Operation) (f : Given) (p l : List Given) → present r h ≡ f ∷ p → own r m ≡ watched r l
      → readings (own_done r (ruled_all h m)) ≡ picked (f ∷ p) (no_setups l)
  call_goes_on h m f p l s q =
      ap readings
      (alone_from r h m (never_full h m (ap is_open s) (ap uncollecting q ∙ watches l)) ∙ ap (λ (c : List Given). ruled_alone c (own r m)) s ∙ ap (ruled_alone (f ∷ p)) q)
      ∙ lives f p l

  -- a collection: before Ended it is 14 and the call stands as it was, so it goes on; else it gives the closing figure of the call's events, and the reference is free
  module _ (h : List Done) (f : Given) (p : List Given) (s : present r h ≡ f ∷ p) where
    abbrev asked : Done
    asked = did (collects r) (ruling (calls h) (present r h) (collects r))

    mine : (n : ℕ) → answer_number asked.answer ≡ n → present r (asked ∷ h) ≡ carried (collects r) n (f ∷ p)
    mine n e = yes _ _ _ (eq-eqb r r refl) ∙ ap (λ k. carried (collects r) k (present r h)) e ∙ ap (carried (collects r) n) s

    pub collected_early : eqb (phase (judged (f ∷ p))) Ended ≡ false → (asked.answer ≡ collected (uncollected 14)) × (present r (asked ∷ h) ≡ f ∷ p)
    collected_early e =
        let a : asked.answer ≡ collected (uncollected 14) = ap (λ (c : List Given). ruling (calls h) c (collects r)) s ∙ no _ _ _ e in
        (a, mine 14 (ap answer_number a))

    pub collected_ended : eqb (phase (judged (f ∷ p))) Ended ≡ true
        → (asked.answer ≡ collected (record { number = 0; closing = closing (judged (f ∷ p)) })) × (present r (asked ∷ h) ≡ [])
    collected_ended e =
        let a : asked.answer ≡ collected (record { number = 0; closing = closing (judged (f ∷ p)) }) = ap (λ (c : List Given). ruling (calls h) c (collects r)) s ∙ yes _ _ _ e in
        (a, mine 0 (ap answer_number a))

  -- demand 3 for a call: after any history in which its reference holds nothing, from the Setup that is accepted
  module _ (h : List Done) (m : List Operation) (g : Given) (l : List Given) (f : present r h ≡ []) (k : is_setup g ≡ true) (q : own r m ≡ views r ∷ watched r l) where
    abbrev begun : Done
    begun = did (happens r g) (ruling (calls h) (present r h) (happens r g))

    pub call_demand_from : answer_number begun.answer ≡ 0 → readings (own_done r (ruled_all h (happens r g ∷ m))) ≡ picked [] (g ∷ no_setups l)
    call_demand_from z =
        let none : setup_full (happens r g) (answer_number begun.answer) ≡ false = ap (setup_full (happens r g)) z ∙ ap (λ (b : Bool). b && false) k in
        let same : ruling (calls h) [] (happens r g) ≡ ruling 0 [] (happens r g) = same_ruled (calls h) [] (happens r g) (ap (λ (c : List Given). setup_full (happens r g) (answer_number (ruling (calls h) c (happens r g)))) (sym f) ∙ none) in
        let taken : (judge (known (judged [])) g.event g.octets).number ≡ 0 =
        ap answer_number (sym (yes _ _ _ k) ∙ sym same ∙ ap (λ (c : List Given). ruling (calls h) c (happens r g)) (sym f)) ∙ z in
        let held : is_open (present r (begun ∷ h)) ≡ true =
        ap is_open (yes _ _ _ (eq-eqb r r refl) ∙ ap (λ n. carried (happens r g) n (present r h)) z ∙ yes _ _ _ k) in
        let full : none_full (own_done r (ruled_all h (happens r g ∷ m))) ≡ true =
        ap none_full (yes (eqb r r) (begun ∷ own_done r (ruled_all (begun ∷ h) m)) _ (eq-eqb r r refl))
        ∙ and_both _ _ (ap not none) (never_full (begun ∷ h) m held (ap uncollecting q ∙ watches l)) in
        ap readings
        (alone_from r h (happens r g ∷ m) full ∙ ap (λ (p : List Given). ruled_alone p (own r (happens r g ∷ m))) f
        ∙ ap (ruled_alone []) (yes (eqb r r) (happens r g ∷ own r m) _ (eq-eqb r r refl) ∙ ap (λ (o : List Operation). happens r g ∷ o) q))
        ∙ life g l k taken

  -- so in every run from a fresh table: whatever was done before, of the same reference too, a Setup refused 36 among it, and whatever the other references do
  pub call_demand : (e m : List Operation) (g : Given) (l : List Given) → is_setup g ≡ true → answer_number (answer_on (after_all fresh_board e) (happens r g)) ≡ 0 → own r m ≡ views r ∷ watched r l
      → readings (own_done r (run_on (after_all fresh_board e) (happens r g ∷ m))) ≡ picked [] (g ∷ no_setups l)
  call_demand e m g l k z q =
      by_cases (is_held r (after_all fresh_board e))
      (λ t. let x : 35 ≡ 0 = sym (ap (λ (u : Boarded). u.outcome.number) (setup_held (after_all fresh_board e) r g k t)) ∙ z in absurd (omega (arith, x)))
      (λ t. ap (λ (d : List Done). readings (own_done r d)) (rules_after e (happens r g ∷ m))
      ∙ call_demand_from (done_after [] e) m g l (none_held e r t) k q (ap first_number (sym (rules_after e (happens r g ∷ []))) ∙ z))
    where
      first_number : List Done → ℕ
      first_number [] = 0
      first_number (d ∷ l) = answer_number d.answer
