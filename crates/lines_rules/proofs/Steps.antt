-- The machine's steps: digits, whole octets, and characters heard one after the other.
use Rattle.prelude.proofs.Prelude.{ℕ, ◌+◌, ◌≤◌, ◌<◌, ◌≡◌, refl, sym, ap, ◌∙◌, List, [], ◌∷◌, ◌++◌, true, false, arith, sub-zero, length, get_or, set, take_all, eqb, le-leb, lt-leb, true≢false}
use Rattle.prelude.proofs.{Prelude.{lt-ltb, le-ltb, ne_eqb, eq-eqb, eqb-true}, Ways.by_cases}
use Rattle.coding.{proofs.Tests.tests, specs.Reader.part, proofs.Parts.part_none, proofs.Parts.part_more, proofs.Parts.part_split}
use Rattle.lines_rules.specs.{declared.Line.Line, declared.Went.Went, Lines.digit_of, inner.Machine.State, inner.Machine.state, inner.Machine.made_line, inner.Machine.new_line, inner.Machine.bad_line}
use Rattle.lines_rules.specs.{inner.Machine.step_line, inner.Machine.step_octets, inner.Machine.octet_of, inner.Machine.spaced_line, inner.Machine.answer_text, inner.Machine.turn, inner.Machine.turns, inner.Machine.Heard}

-- ---- a digit's value, where a later range has to be ruled out

pub digit_below : (c : ℕ) → c < 48 → 16 ≡ digit_of c
unfolding digit_of
digit_below c h =
    let h₁ : c < 65 = omega arith in
    let h₂ : c < 97 = omega arith in
    search tests

pub digit_between : (c : ℕ) → 48 ≤ c → 57 < c → c < 65 → 16 ≡ digit_of c
unfolding digit_of
digit_between c h k l = let h₁ : c < 97 = omega arith in search tests

-- a digit ends no line
pub digit_open : (c : ℕ) → digit_of c < 16 → c ≡ 10 → ⊥
unfolding digit_of
digit_open c h e =
    let k : digit_of c ≡ 16 = ap digit_of e in
    omega arith

-- ---- one step

pub turn_open : (l : Line) (o t : List ℕ) (c : ℕ) → (c ≡ 10 → ⊥) → turn (state l o t) c ≡ state (step_line l c) (step_octets l c o) t
unfolding turn
turn_open l o t c h = rw (ne_eqb c 10 h)

module _ (l : Line) (c : ℕ) (o : List ℕ) where
  -- the line after the character, and the octets that it holds
  abbrev pub Fed : Line → List ℕ → Type 0
  Fed m p = (m ≡ step_line l c) × (p ≡ step_octets l c o)

  -- by what the line awaits, and what comes
  pub fed_bad : l.phase ≡ 4 → Fed l o
  unfolding step_line step_octets
  fed_bad p = (rw (eq-eqb l.phase 4 p), rw p)

  pub fed_space : l.phase ≡ 3 → c ≡ 32 → Fed (made_line l.count 1 0) o
  unfolding step_line step_octets
  fed_space p e = (rw (p, e), rw p)

  pub fed_gap : l.phase ≡ 3 → (c ≡ 32 → ⊥) → Fed bad_line o
  unfolding step_line step_octets
  fed_gap p e = (rw (p, ne_eqb c 32 e), rw p)

  pub fed_none : (l.phase ≡ 4 → ⊥) → (l.phase ≡ 3 → ⊥) → 16 ≤ digit_of c → Fed bad_line o
  unfolding step_line step_octets
  fed_none p q d = (rw (ne_eqb l.phase 4 p, ne_eqb l.phase 3 q, le-leb 16 (digit_of c) d), by_cases (eqb l.phase 2) (λ e. rw (e, le-leb 16 (digit_of c) d)) (λ e. rw e))

  pub fed_first : (l.phase ≡ 4 → ⊥) → (l.phase ≡ 3 → ⊥) → (l.phase ≡ 2 → ⊥) → digit_of c < 16 → Fed (made_line l.count 2 (digit_of c)) o
  unfolding step_line step_octets
  fed_first p q r d = (rw (ne_eqb l.phase 4 p, ne_eqb l.phase 3 q, ne_eqb l.phase 2 r, lt-leb 16 (digit_of c) d), rw (ne_eqb l.phase 2 r))

  pub fed_second : l.phase ≡ 2 → l.count < 254 → digit_of c < 16 → Fed (made_line (l.count + 1) 3 0) (set o l.count (octet_of l.high (digit_of c)))
  unfolding step_line step_octets
  fed_second p n d = (rw (p, lt-leb 16 (digit_of c) d, lt-ltb l.count 254 n), rw (p, lt-leb 16 (digit_of c) d, lt-ltb l.count 254 n))

  pub fed_full : l.phase ≡ 2 → 254 ≤ l.count → digit_of c < 16 → Fed (made_line 255 3 0) o
  unfolding step_line step_octets
  fed_full p n d = (rw (p, lt-leb 16 (digit_of c) d, le-ltb l.count 254 n), rw (p, lt-leb 16 (digit_of c) d, le-ltb l.count 254 n))

-- two digits
turns_octet : (l : Line) (o t : List ℕ) (a b : ℕ) → l.phase ≤ 1 → l.count < 254 → digit_of a < 16 → digit_of b < 16
    → turn (turn (state l o t) a) b ≡ state (made_line (l.count + 1) 3 0) (set o l.count (octet_of (digit_of a) (digit_of b))) t
turns_octet l o t a b h k d e =
    let m = made_line l.count 2 (digit_of a) in
    let f = fed_first l a o (λ x. omega arith) (λ x. omega arith) (λ x. omega arith) d in
    let g = fed_second m b o refl k e in
    ap (λ x. turn x b) (turn_open l o t a (digit_open a d) ∙ rw (← f.0, ← f.1)) ∙ turn_open m o t b (digit_open b e) ∙ rw (← g.0, ← g.1)

-- ---- characters one after the other

pub turns_append : (s r : List ℕ) (q : State) → turns q (s ++ r) ≡ turns (turns q s) r
unfolding turns
turns_append [] r q = refl
turns_append (c ∷ s) r q = turns_append s r (turn q c)

-- one more
pub turns_more : (s : List ℕ) (i k : ℕ) (q : State) {p : State} → i ≤ k → k < length s → turns q (part s i k) ≡ p → turns q (part s i (k + 1)) ≡ turn p (get_or s k 0)
unfolding turns
turns_more s i k q {p} h l e =
    ap (turns q) (part_more s i k h l) ∙ turns_append (part s i k) (get_or s k 0 ∷ []) q ∙ ap (λ r. turn r (get_or s k 0)) e

-- a part after another
pub turns_both : (s : List ℕ) (i k j : ℕ) (q : State) {p r : State} → i ≤ k → k ≤ j → turns q (part s i k) ≡ p → turns p (part s k j) ≡ r → turns q (part s i j) ≡ r
turns_both s i k j q {p} {r} h l e f =
    ap (turns q) (part_split s i k j h l) ∙ turns_append (part s i k) (part s k j) q ∙ ap (λ x. turns x (part s k j)) e ∙ f

-- none
pub turns_none : (s : List ℕ) (i : ℕ) (q : State) → turns q (part s i i) ≡ q
unfolding turns
turns_none s i q = let h : i ≤ i = omega arith in ap (turns q) (part_none s i i h)

-- all of them
pub turns_all : (s : List ℕ) (at : ℕ) (q : State) {p : State} → length s ≤ at → turns q (part s 0 at) ≡ p → turns q s ≡ p
unfolding part
turns_all s at q h e = ap (turns q) (sym (rw sub-zero (take_all at s h))) ∙ e

-- characters heard of a line that was left open, or that ended
pub heard_open : (s : List ℕ) (from : ℕ) (l : Line) (o : List ℕ) (w : Went) (p : List ℕ) → Heard s from l o w p → w.ended ≡ false
    → (t : List ℕ) → turns (state l o t) (part s from w.at) ≡ state w.line p t
heard_open s from l o w p h e t = h.heard t ∙ rw e

pub heard_ended : (s : List ℕ) (from : ℕ) (l : Line) (o : List ℕ) (w : Went) (p : List ℕ) → Heard s from l o w p → w.ended ≡ true
    → (t : List ℕ) → turns (state l o t) (part s from w.at) ≡ state new_line p (t ++ answer_text w.line p)
heard_ended s from l o w p h e t = h.heard t ∙ rw e

-- and characters after those
pub heard_on : (s : List ℕ) (from : ℕ) (l : Line) (o : List ℕ) (w : Went) (p : List ℕ) → Heard s from l o w p → w.ended ≡ false
    → (at : ℕ) (m : Line) (q : List ℕ) → w.at ≤ at → ((t : List ℕ) → turns (state w.line p t) (part s w.at at) ≡ state m q t)
    → (t : List ℕ) → turns (state l o t) (part s from at) ≡ state m q t
heard_on s from l o w p h e at m q i f t = turns_both s from w.at at (state l o t) h.onward i (heard_open s from l o w p h e t) (f t)

-- and the line's end
pub heard_end : {s : List ℕ} {from at : ℕ} {l m : Line} {o p : List ℕ} → from ≤ at → at < length s
    → ((t : List ℕ) → turns (state l o t) (part s from at) ≡ state m p t) → get_or s at 0 ≡ 10
    → Heard s from l o (record { line = m; at = at + 1; ended = true }) p × (from < at + 1)
unfolding turn
heard_end h i f c = (record { onward = omega arith; inside = omega arith; heard = λ t. turns_more _ _ _ _ h i (f t) ∙ rw c }, omega arith)

-- three
turns_three : (s : List ℕ) (at : ℕ) (q : State) → at + 3 ≤ length s → turns q (part s at (at + 3)) ≡ turn (turn (turn q (get_or s at 0)) (get_or s (at + 1) 0)) (get_or s (at + 2) 0)
turns_three s at q h =
    let e₁ = turns_more s at at q (omega arith) (omega arith) (turns_none s at q) in
    let e₂ = turns_more s at (at + 1) q (omega arith) (omega arith) e₁ in
    let n₂ : at + 1 + 1 ≡ at + 2 = omega arith in
    let n₃ : at + 2 + 1 ≡ at + 3 = omega arith in
    rw n₃ at (turns_more s at (at + 2) q (omega arith) (omega arith) (rw n₂ at e₂))

-- ---- whole octets

abbrev pub Taken : List ℕ → ℕ → ℕ → ℕ → Line → List ℕ → List ℕ → Type 0
Taken s from at k l o p = (t : List ℕ) → turns (state l o t) (part s from at) ≡ state (spaced_line l k) p t

spaced_phase : (l : Line) (k : ℕ) → l.phase ≤ 1 → (spaced_line l k).phase ≤ 1
spaced_phase l k h = by_cases (eqb k 0) (λ e. rw e h) (λ e. rw e (omega arith))

spaced_count : (l : Line) (k : ℕ) → (spaced_line l k).count ≡ l.count + k
spaced_count l k = by_cases (eqb k 0) (λ e. rw e (omega (arith, eqb-true k 0 e))) (λ e. rw e)

-- nothing is taken yet
pub taken_none : (s : List ℕ) (from : ℕ) (l : Line) (o : List ℕ) → Taken s from from 0 l o o
taken_none s from l o t = turns_none s from (state l o t)

-- no more is taken
pub heard_left : {s : List ℕ} {from at : ℕ} (k : ℕ) {l : Line} {o p : List ℕ} → from ≤ at → at ≤ length s → Taken s from at k l o p
    → Heard s from l o (record { line = spaced_line l k; at = at; ended = false }) p × (false ≡ true → from < at)
heard_left k h i t = (record { onward = h; inside = i; heard = t }, λ e. absurd (true≢false (sym e)))

-- two digits at a place, after those that are taken, and their values
pub record Next (s : List ℕ) (from at k : ℕ) (l : Line) (o p : List ℕ) (x y : ℕ) : Type 0 where
  pub ready : l.phase ≤ 1
  pub few : l.count + k < 254
  pub onward : from ≤ at
  pub inside : at + 3 ≤ length s
  pub high : (x ≡ digit_of (get_or s at 0)) × (x < 16)
  pub low : (y ≡ digit_of (get_or s (at + 1) 0)) × (y < 16)
  pub taken : Taken s from at k l o p

module _ {s : List ℕ} {from at k : ℕ} {l : Line} {o p : List ℕ} {x y : ℕ} (n : Next s from at k l o p x y) {z : ℕ} (e : z ≡ octet_of x y) where
  -- the octet, and the character after it
  taken_octet : (t : List ℕ) → turns (state l o t) (part s from (at + 3)) ≡ turn (state (made_line (l.count + k + 1) 3 0) (set p (l.count + k) z) t) (get_or s (at + 2) 0)
  taken_octet t =
      let q = spaced_line l k in
      let c : q.count ≡ l.count + k = spaced_count l k in
      turns_both s from at (at + 3) (state l o t) n.onward (omega arith) (n.taken t)
      (turns_three s at (state q p t) n.inside
      ∙ ap (λ r. turn r (get_or s (at + 2) 0))
      (turns_octet q p t (get_or s at 0) (get_or s (at + 1) 0) (spaced_phase l k n.ready) (omega arith) (omega (arith, n.high)) (omega (arith, n.low))
      ∙ rw (c, e, n.high.0, n.low.0)))

  -- with a space
  pub taken_more : get_or s (at + 2) 0 ≡ 32 → Taken s from (at + 3) (k + 1) l o (set p (l.count + k) z)
  unfolding turn step_line step_octets
  taken_more c t =
      let f : k + 1 ≡ 0 → ⊥ = λ f. omega arith in
      let m : l.count + k + 1 ≡ l.count + (k + 1) = omega arith in
      taken_octet t ∙ rw (c, m, ne_eqb (k + 1) 0 f)

  -- with the line's end
  pub heard_last : get_or s (at + 2) 0 ≡ 10
      → Heard s from l o (record { line = made_line (l.count + k + 1) 3 0; at = at + 3; ended = true }) (set p (l.count + k) z) × (true ≡ true → from < at + 3)
  unfolding turn
  heard_last c =
      (record { onward = omega (arith, n.onward); inside = n.inside; heard = λ t. taken_octet t ∙ rw c }, λ e. omega (arith, n.onward))
