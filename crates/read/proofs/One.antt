-- An answer and a record's four parts are told apart by what they say together: so `read_into` has one outcome.
use Rattle.prelude.proofs.Prelude.{ℕ, ◌+◌, ◌*◌, ◌/◌, ◌%◌, ◌<◌, arith, ◌≡◌, ap, sym, ◌∙◌, List, [], ◌∷◌, ◌++◌, length}
use Rattle.coding.{specs.Reader.part, proofs.Laws.Octets}
use Rattle.types.{specs.declared.Front.Front, specs.declared.Figure.Figure, specs.declared.Record.Record, specs.declared.Answer.Answer, specs.Stored.front_in, specs.Stored.figure_in}
use Rattle.types.{proofs.Stored.by_octets}
use Rattle.read.specs.{declared.Refusal.Refusal, Whole.whole_answer}

-- so many octets, as an array has them
pub record Filled (n : ℕ) (s : List ℕ) : Type 0 where
  pub count : length s ≡ n
  pub octets : Octets s

-- a number's two octets; of a front and of a figure, the octets that it lies in
abbrev pair : ℕ → List ℕ → List ℕ
pair n s = n % 256 ∷ n / 256 ∷ s

abbrev front_out : Front → List ℕ
front_out f = f.frame ∷ f.unnamed ∷ pair f.id (f.operation ∷ f.error ∷ f.problem ∷ f.detail ∷ [])

abbrev figure_out : Figure → List ℕ
figure_out g =
    let m = g.money in
    let a = g.association in
    (m.currency.count ∷ m.currency.octets) ++ (m.multiplier ∷ pair (m.number % 65536) (pair (m.number / 65536) (pair a.id (pair a.count (a.kind ∷ a.plan
    ∷ (a.digits ++ (g.kind ∷ g.total ∷ g.billed ∷ g.billing ∷ g.arrangement ∷ g.count ∷ [])))))))

low : (x y : ℕ) → x < 256 → (x + 256 * y) % 256 ≡ x
low x y h = omega arith

high : (x y : ℕ) → x < 256 → (x + 256 * y) / 256 ≡ y
high x y h = omega arith

front_back : (s : List ℕ) → length s ≡ 8 → Octets s → front_out (front_in s) ≡ s
front_back = by_octets 8 (λ s. Octets s → front_out (front_in s) ≡ s) (λ f o. rw (low (f 2) (f 3) (o 2), high (f 2) (f 3) (o 2)))

figure_back : (s : List ℕ) → length s ≡ 48 → Octets s → figure_out (figure_in s) ≡ s
unfolding figure_in part
figure_back = by_octets 48 (λ s. Octets s → figure_out (figure_in s) ≡ s) (λ f o.
    let two : ℕ → ℕ = λ i. f i + 256 * f (1 + i) in
    let l : (two 12 + 65536 * two 14) % 65536 ≡ two 12 = omega (arith, o 12, o 13) in
    let h : (two 12 + 65536 * two 14) / 65536 ≡ two 14 = omega (arith, o 12, o 13) in
    simp (
      l,
      h,
      low (f 12) (f 13) (o 12),
      high (f 12) (f 13) (o 12),
      low (f 14) (f 15) (o 14),
      high (f 14) (f 15) (o 14),
      low (f 16) (f 17) (o 16),
      high (f 16) (f 17) (o 16),
      low (f 18) (f 19) (o 18),
      high (f 18) (f 19) (o 18),
    ))

pub one_answer : (r r' : Refusal) {front front' figure figure' numbers numbers' rows rows' : List ℕ}
    → Filled 8 front → Filled 8 front' → Filled 48 figure → Filled 48 figure'
    → whole_answer r front figure numbers rows ≡ whole_answer r' front' figure' numbers' rows'
    → (r ≡ r') × (front ≡ front') × (figure ≡ figure') × (numbers ≡ numbers') × (rows ≡ rows')
one_answer r r' a a' b b' e =
    let v = ap (λ (x : Answer). x.value) e in (
      ap (λ (x : Answer). record { number = x.number; offset = x.offset }) e,
      sym (front_back _ a.count a.octets) ∙ ap (λ (x : Record). front_out x.front) v ∙ front_back _ a'.count a'.octets,
      sym (figure_back _ b.count b.octets) ∙ ap (λ (x : Record). figure_out x.charge.figure) v ∙ figure_back _ b'.count b'.octets,
      ap (λ (x : Record). x.charge.entries.numbers) v,
      ap (λ (x : Record). x.charge.entries.octets) v,
    )
