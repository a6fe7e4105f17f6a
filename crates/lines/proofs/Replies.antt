-- The answer to octets that are read: a refusal, or a record whose shortest form always can be written.
use Rattle.prelude.proofs.Prelude.{ℕ, ◌+◌, ◌≤◌, ◌<◌, ◌≡◌, sym, ap, ◌∙◌, List, ◌++◌, true, inl, inr, arith, length, take, drop, length-append, take-append_seam, le-leb, ne_eqb}
use Rattle.coding.proofs.Laws.{Octets}
use Rattle.types.{specs.declared.Answer.Answer, specs.Frames.component, specs.Frames.read_of, specs.Frames.accepted, proofs.Theorems.refusal, proofs.Theorems.no_offset}
use Rattle.types.{proofs.Theorems.read_fits}
use Rattle.types.specs.{declared.Front.Front, Stored.front_in, Stored.stored_charge}
use Rattle.read.specs.{declared.Refusal.Refusal, Whole.whole_answer}
use Rattle.write.specs.{declared.Written.Written, Outcome.write_of, Outcome.left_of, Outcome.done}
use Rattle.lines_rules.specs.{Text.hex_text, Text.refused_text, Lines.text_for}

-- the answer that was read, with its front taken apart
abbrev apart : Refusal → Front → List ℕ → List ℕ → List ℕ → Answer
apart r front figure numbers rows = record { number = r.number; offset = r.offset; value = record { front = front; charge = stored_charge figure numbers rows } }

pub read_apart : {r : Refusal} {front : Front} (lent figure numbers rows s : List ℕ)
    → whole_answer r lent figure numbers rows ≡ read_of s → front ≡ front_in lent → apart r front figure numbers rows ≡ read_of s
read_apart {r} lent figure numbers rows s e i = (λ k. apart r (i k) figure numbers rows) ∙ e

-- the writer has put the shortest form of what was read
pub record Formed (s : List ℕ) (w : Written) (q : List ℕ) : Type 0 where
  pub accepted : w.number ≡ 0
  pub inside : w.count ≤ length q
  pub few : w.count ≤ 254
  pub text : hex_text (take w.count q) ≡ text_for s

module _ (s : List ℕ) (a : Answer) (e : a ≡ read_of s) where
  -- a refusal's number has two digits at most
  pub number_below : a.number < 100
  number_below =
      let f : a.number ≡ (read_of s).number = ap (λ (z : Answer). z.number) e in
      elim (refusal s) [
        | inl x ↦ omega (arith, x)
        | inr x ↦ omega (arith, x.1)
      ]

  pub reply_refused : (a.number ≡ 0 → ⊥) → refused_text a.number ≡ text_for s
  unfolding text_for
  reply_refused h = rw (← e) (rw (ne_eqb a.number 0 h))

  pub reply_accepted : a.number ≡ 0 → hex_text (component.write a.value) ≡ text_for s
  unfolding text_for
  reply_accepted h = rw (← e) (rw h)

  -- the record that was read is the answer's
  read_value : a.number ≡ 0 → read_of s ≡ accepted a.value
  read_value h =
      let f : a.number ≡ (read_of s).number = ap (λ (z : Answer). z.number) e in
      let o : a.offset ≡ 0 = ap (λ (z : Answer). z.offset) e ∙ no_offset s (omega arith) in
      sym e ∙ (λ i. record { number = h i; offset = o i; value = a.value })

  -- and the writer never refuses it
  module _ (o : Octets s) (h : a.number ≡ 0) (w : Written) (p q : List ℕ) (k : 254 ≤ length p)
      (f : w ≡ write_of a.value (length p)) (g : q ≡ left_of a.value p) where
    form_fits : (component.valid a.value ≡ true) × (length (component.write a.value) ≤ 254)
    form_fits = let r = read_fits s a.value o (read_value h) in (r.0, omega (arith, r.1, r.2))

    form_put : (w ≡ done (length (component.write a.value))) × (q ≡ component.write a.value ++ drop (length (component.write a.value)) p)
    unfolding write_of left_of
    form_put =
        let l : length (component.write a.value) ≤ length p = omega (arith, form_fits.1) in
        (f ∙ rw (form_fits.0, le-leb _ 254 form_fits.1, le-leb _ (length p) l), g ∙ rw (form_fits.0, le-leb _ 254 form_fits.1, le-leb _ (length p) l))

    pub formed : Formed s w q
    formed =
        let x = component.write a.value in
        let n : w.count ≡ length x = ap (λ (z : Written). z.count) form_put.0 in
        let l : length q ≡ length x + length (drop (length x) p) = ap length form_put.1 ∙ length-append x (drop (length x) p) in
        let t : take w.count q ≡ x = rw (n, form_put.1) (take-append_seam x (drop (length x) p)) in
        record { accepted = ap (λ (z : Written). z.number) form_put.0; inside = omega arith; few = omega (arith, form_fits.1); text = ap hex_text t ∙ reply_accepted h }

-- the same of what the reader left, with its front taken apart
pub written_of : {r : Refusal} {front : Front} {w : Written} (lent figure numbers rows p : List ℕ) {s q : List ℕ} → whole_answer r lent figure numbers rows ≡ read_of s → front ≡ front_in lent
    → Octets s → r.number ≡ 0 → 254 ≤ length p → w ≡ write_of (record { front = front; charge = stored_charge figure numbers rows }) (length p)
    → q ≡ left_of (record { front = front; charge = stored_charge figure numbers rows }) p → Formed s w q
written_of {r} {front} {w} lent figure numbers rows p {s} {q} e i o h k f g =
    formed s (apart r front figure numbers rows) (read_apart lent figure numbers rows s e i) o h w p q k f g
