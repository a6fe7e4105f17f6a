-- Noise may be dropped: the events that remain keep their outcomes, and all that stands after each of them is equal.
use Rattle.prelude.proofs.Prelude.{ℕ, ◌≡◌, refl, sym, ◌∙◌, ap, List, [], ◌∷◌, map, Bool, true, false}
use Rattle.phases.{specs.declared.Event.Event, specs.declared.Outcome.Outcome, specs.Phases.outcome, specs.Phases.Given, proofs.Choice.first_of, proofs.Choice.second_of}
use Rattle.account.specs.{declared.Account.Account, declared.Stepped.Stepped, History.known, History.judged, History.account_by, History.Shown, History.answers, Step.known_of}
use Rattle.account.specs.{Step.change_of, Step.stepped_of, Step.closing_of, Step.marks_of, Step.ours, Noise.is_noise, Noise.chosen, Noise.only_noise, Noise.Standing, Noise.standing}
use Rattle.account.specs.{Noise.Past, Noise.past, Noise.outcomes}
use Rattle.outcomes.specs.Outcome.{is_refusal, judge, charge_in}
use Rattle.account.proofs.Demand.{known_stands, closing_stands, step_stands, after_nothing}

-- ---- noise changes nothing: no outcome that counts is among it

pub noise_nothing : (a : Account) (e : Event) (o : List ℕ) → is_noise (stepped_of a e o).outcome ≡ true → (stepped_of a e o).account ≡ a
unfolding stepped_of change_of is_noise is_refusal
noise_nothing a e o q = after_nothing (λ n. is_noise (outcome n 0)) refl (judge (known_of a) e o) q a e (charge_in o)

noise_left : (h : List Given) (g : Given) → is_noise (judge (known (judged h)) g.event g.octets) ≡ true → account_by (judged (g ∷ h)) ≡ account_by (judged h)
noise_left h g q =
    sym (ap (λ (r : Stepped). r.account) (step_stands h g))
    ∙ noise_nothing (account_by (judged h)) g.event g.octets (ap (λ (r : Stepped). is_noise r.outcome) (step_stands h g) ∙ q)

-- ---- by the rules over the list

same_account : (c : List Bool) (h : List Given) → only_noise c (outcomes h) ≡ true → account_by (judged (chosen c h)) ≡ account_by (judged h)
same_account [] h q = refl
same_account (b ∷ c) [] q = refl
same_account (true ∷ c) (g ∷ h) q =
    sym (ap (λ (r : Stepped). r.account) (step_stands (chosen c h) g))
    ∙ ap (λ (a : Account). (stepped_of a g.event g.octets).account) (same_account c h q)
    ∙ ap (λ (r : Stepped). r.account) (step_stands h g)
same_account (false ∷ c) (g ∷ h) q =
    let r : Outcome = judge (known (judged h)) g.event g.octets in
    same_account c h (second_of (is_noise r) (only_noise c (outcomes h)) q) ∙ sym (noise_left h g (first_of (is_noise r) (only_noise c (outcomes h)) q))

-- all that stands is read off the account
abbrev standing_of : Account → Standing
standing_of a = record { known = known_of a; marks = marks_of a; rate = a.rate; running = a.running; closing = closing_of a }

stands : (h : List Given) → standing_of (account_by (judged h)) ≡ standing h
stands h = rw (known_stands h, closing_stands h)

-- and so is what one event more adds to a history
abbrev past_of : Given → Account → Past
past_of g a = record {
  given = g;
  outcome = (stepped_of a g.event g.octets).outcome;
  after = standing_of (stepped_of a g.event g.octets).account;
}

tells : (h : List Given) (g : Given) → past_of g (account_by (judged h)) ≡ record { given = g; outcome = judge (known (judged h)) g.event g.octets; after = standing (g ∷ h) }
tells h g = rw (step_stands h g, stands (g ∷ h))

-- for every call's list, and every choice of events that leaves out noise alone: each event that remains has the outcome that it had, and all that is there after it is what stood
pub noise_dropped : (c : List Bool) (h : List Given) → only_noise c (outcomes h) ≡ true → past (chosen c h) ≡ chosen c (past h)
noise_dropped [] h q = refl
noise_dropped (b ∷ c) [] q = refl
noise_dropped (true ∷ c) (g ∷ h) q =
    rw (← tells (chosen c h) g, same_account c h q, tells h g, noise_dropped c h q)
noise_dropped (false ∷ c) (g ∷ h) q =
    noise_dropped c h (second_of (is_noise (judge (known (judged h)) g.event g.octets)) (only_noise c (outcomes h)) q)

-- and at the end all that stands is equal
pub end_kept : (c : List Bool) (h : List Given) → only_noise c (outcomes h) ≡ true → standing (chosen c h) ≡ standing h
end_kept c h q = sym (stands (chosen c h)) ∙ ap standing_of (same_account c h q) ∙ stands h

-- ---- by the step: of any account, what a host reads after each event that remains is what it read

abbrev pub heard : List Shown → List Outcome
heard l = map (λ (s : Shown). s.outcome) l

pub answers_dropped : (c : List Bool) (l : List Given) (a : Account) → only_noise c (heard (answers ours a l)) ≡ true → answers ours a (chosen c l) ≡ chosen c (answers ours a l)
answers_dropped [] l a q = refl
answers_dropped (b ∷ c) [] a q = refl
answers_dropped (true ∷ c) (g ∷ l) a q = rw (answers_dropped c l (stepped_of a g.event g.octets).account q)
answers_dropped (false ∷ c) (g ∷ l) a q =
    let r : Stepped = stepped_of a g.event g.octets in
    let n : is_noise r.outcome ≡ true = first_of (is_noise r.outcome) (only_noise c (heard (answers ours r.account l))) q in
    let m : only_noise c (heard (answers ours r.account l)) ≡ true = second_of (is_noise r.outcome) (only_noise c (heard (answers ours r.account l))) q in
    ap (λ (x : Account). answers ours x (chosen c l)) (sym (noise_nothing a g.event g.octets n)) ∙ answers_dropped c l r.account m
