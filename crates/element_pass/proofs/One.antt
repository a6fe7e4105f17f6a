-- An answer and a record's four parts are told apart by what they say together: so `next_into` has one outcome.
use Rattle.prelude.proofs.Prelude.{ℕ, ◌≡◌, ap, List}
use Rattle.read.{specs.declared.Refusal.Refusal, proofs.One.Filled, proofs.One.one_answer}
use Rattle.types.specs.declared.Answer.{Answer}
use Rattle.element_pass.specs.{declared.Next.Next, Pass.Passed, Pass.whole_next}

abbrev made : ℕ → ℕ → Refusal → Next
made a e r = record { after = a; ended = e; answer = r }

same : (a a' e e' : ℕ) (r r' : Refusal) → a ≡ a' → e ≡ e' → r ≡ r' → made a e r ≡ made a' e' r'
same a a' e e' r r' p q s = rw (p, q, s)

pub one_next : (r r' : Next) {front front' figure figure' numbers numbers' rows rows' : List ℕ}
    → Filled 8 front → Filled 8 front' → Filled 48 figure → Filled 48 figure'
    → whole_next r front figure numbers rows ≡ whole_next r' front' figure' numbers' rows'
    → (r ≡ r') × (front ≡ front') × (figure ≡ figure') × (numbers ≡ numbers') × (rows ≡ rows')
one_next r r' a a' b b' e =
    let p : r.after ≡ r'.after = ap (λ (x : Passed Answer). x.after) e in
    let q : r.ended ≡ r'.ended = ap (λ (x : Passed Answer). x.ended) e in
    let o = one_answer r.answer r'.answer a a' b b' (ap (λ (x : Passed Answer). x.answer) e) in
    let s : r.answer ≡ r'.answer = o.0 in
    (same r.after r'.after r.ended r'.ended r.answer r'.answer p q s, o.1, o.2, o.3, o.4)
