-- Refused, the table is as it was.
use Rattle.prelude.proofs.{Prelude.{ℕ, ◌≡◌, refl, sym, ◌∙◌, ap, List, true, false, eqb, eqb-true, get_or, set}, Ways.by_cases}
use lib.Seq.{set-get_or}
use Rattle.phases.{specs.Phases.Given, proofs.Choice.never}
use Rattle.outcomes.specs.Outcome.{is_refusal, was}
use Rattle.account.{specs.declared.Account.Account, specs.declared.Stepped.Stepped, specs.History.fresh, specs.Step.stepped_of, proofs.Demand.refused_nothing}
use Rattle.board_rules.specs.declared.Board.{Board}
use Rattle.board_rules.specs.{Board.{key_of, lowest, is_held, is_full, call_of, with_slot, Boarded, event_on, Emptied, collect_on}, Calls.is_setup}
use Rattle.board_rules.proofs.Slots.{found}
use Rattle.board_rules.proofs.Table.{yes, no, setup_held, setup_full_lem, setup_new, other_held, other_none, collect_none, collect_early, collect_now}

-- what a reference holds, put back
put_back : (b : Board) (r : ℕ) → is_held r b ≡ true → with_slot b (lowest (key_of r) b.keys) (key_of r) (call_of r b) ≡ b
put_back b r h =
    let i : ℕ = lowest (key_of r) b.keys in
    ap (λ (k : ℕ). with_slot b i k (call_of r b)) (sym (found (key_of r) b.keys h).1)
    ∙ ap (λ (l : List ℕ). record { keys = l; calls = set b.calls i (get_or b.calls i fresh) }) (set-get_or b.keys i 0)
    ∙ ap (λ (l : List Account). record { keys = b.keys; calls = l }) (set-get_or b.calls i fresh)

none : is_refusal 0 ≡ false
unfolding is_refusal
none = refl

-- an event refused by 01's numbers (decoding, 13, 14); with 35, 36 and 37 it is `setup_held`, `setup_full_lem` and `other_none`
pub refused_event : (b : Board) (r : ℕ) (g : Given) → is_refusal (event_on b r g.event g.octets).outcome.number ≡ true → (event_on b r g.event g.octets).board ≡ b
refused_event b r g q =
    by_cases (is_setup g)
    (λ k. by_cases (is_held r b) (λ h. ap (λ (u : Boarded). u.board) (setup_held b r g k h))
    (λ h. by_cases (is_full b) (λ f. ap (λ (u : Boarded). u.board) (setup_full_lem b r g k h f))
    (λ f. let w : Stepped = stepped_of fresh g.event g.octets in let e = setup_new b r g k h f in
    by_cases (was 0 w.outcome)
    (λ z. let n : (event_on b r g.event g.octets).outcome.number ≡ 0 = ap (λ (u : Boarded). u.outcome.number) (e ∙ yes _ _ _ z) ∙ eqb-true w.outcome.number 0 z in
    never (sym none ∙ ap is_refusal (sym n) ∙ q))
    (λ z. ap (λ (u : Boarded). u.board) (e ∙ no _ _ _ z)))))
    (λ k. by_cases (is_held r b)
    (λ h. let e = other_held b r g k h in
    let a : (stepped_of (call_of r b) g.event g.octets).account ≡ call_of r b = refused_nothing (call_of r b) g.event g.octets (sym (ap (λ (u : Boarded). is_refusal
    u.outcome.number) e) ∙ q) in
    ap (λ (u : Boarded). u.board) e ∙ ap (with_slot b (lowest (key_of r) b.keys) (key_of r)) a ∙ put_back b r h)
    (λ h. ap (λ (u : Boarded). u.board) (other_none b r g k h)))

-- a collection with another number than 0
pub refused_collection : (b : Board) (r : ℕ) → ((collect_on b r).answer.number ≡ 0 → ⊥) → (collect_on b r).board ≡ b
refused_collection b r n =
    by_cases (is_held r b)
    (λ h. by_cases (eqb (call_of r b).status.phase 4)
    (λ e. absurd (n (ap (λ (u : Emptied). u.answer.number) (collect_now b r h e))))
    (λ e. ap (λ (u : Emptied). u.board) (collect_early b r h e)))
    (λ h. ap (λ (u : Emptied). u.board) (collect_none b r h))
