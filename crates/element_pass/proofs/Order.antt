-- The starts of an accepted element rise, so a place is among them once, and the place after it lies inside the element.
use Rattle.prelude.proofs.Prelude.{ℕ, zero, suc, ◌+◌, ◌-◌, ◌≤◌, ◌<◌, arith, ◌≡◌, refl, sym, ap, ◌∙◌, List, [], ◌∷◌, ◌++◌, length, get_or, ltb, eqb, eqb-true, eq-eqb, ne_eqb, cond}
use Rattle.prelude.proofs.Ways.{by_cases}
use Rattle.coding.{specs.declared.Extent.Extent, specs.Reader.length_at, specs.Reader.part, specs.Reader.Ans.got, proofs.Basic.never, proofs.Basic.chain, proofs.Basic.same_got}
use Rattle.coding.{proofs.Basic.picked, proofs.Basic.unpicked, proofs.Basic.and_left, proofs.Basic.and_right}
use Rattle.element.{specs.Element.tiled, specs.Element.led, specs.Element.element_of, specs.Cut.starts_of, specs.Cut.first_or, proofs.Tiles.element_found, proofs.Tiles.led_long, proofs.Tiling.tile_size}
use Rattle.element_cut.specs.inner.Places.{after_in}
use Rattle.element_pass.specs.{declared.Found.Found, Pass.none_at, Pass.found_up_to, Pass.among_starts, Pass.found_at, Pass.Reads, Pass.Passed, Pass.pass_with}

-- each start lies below the next, the last below the end
abbrev pub Rises : ℕ → List ℕ → Type 0
Rises end [] = Unit {0}
Rises end (a ∷ starts) = (a < first_or end starts) × Rises end starts

pub first_inside : (end : ℕ) (xs : List ℕ) → Rises end xs → first_or end xs ≤ end
first_inside end [] r = omega arith
first_inside end (a ∷ xs) r = omega (arith, r.0, first_inside end xs r.1)

-- each start is that of a tile which ends at the next one, the last at the end
abbrev Opens : List ℕ → List ℕ → Type 0
Opens s [] = Unit {0}
Opens s (a ∷ starts) = ((v : Extent) × (length_at a s (a + 1) (length s) ≡ got v (first_or (length s) starts))) × Opens s starts

-- the starts that are found from a place on
record Found-from (s : List ℕ) (i : ℕ) (xs : List ℕ) : Type 0 where
  rises : Rises (length s) xs
  begins : first_or (length s) xs ≡ i
  opens : Opens s xs

tiled_found : (turns : ℕ) (s : List ℕ) (i : ℕ) (xs : List ℕ) {last : ℕ} → tiled turns s i (length s) ≡ got xs last → Found-from s i xs
unfolding tiled
tiled_found zero s i xs e = absurd (never e)
tiled_found (suc turns) s i xs {last} e = by_cases (eqb i (length s))
    (λ q. same_got (λ ys m. Found-from s i ys) (rw q at e) (record { rises = tt; begins = sym (eqb-true i (length s) q); opens = tt }))
    (λ q. let a = chain _ _ (rw q at e) in
    let b = chain _ _ a.3 in
    let t = tiled_found turns s a.1 b.0 {last = b.1} b.2 in
    let u : i < first_or (length s) b.0 = omega (arith, (tile_size s i (length s) a.2).0, t.begins) in
    same_got (λ ys m. Found-from s i ys) b.3 (record { rises = (u, t.rises); begins = refl; opens = ((a.0, rw t.begins a.2), t.opens) }))

-- those of an accepted element, the first of which is at 3
starts_found_lem : (s : List ℕ) → (element_of s).number ≡ 0 → Found-from s 3 (starts_of (element_of s))
starts_found_lem s e = let a = element_found s e in rw a.1.3 (tiled_found (length s) s 3 a.1.0 a.1.2)

pub starts_rise : (s : List ℕ) → (element_of s).number ≡ 0 → Rises (length s) (starts_of (element_of s)) × (first_or (length s) (starts_of (element_of s)) ≡ 3)
starts_rise s e = let f = starts_found_lem s e in (f.rises, f.begins)

opens_at : (s before : List ℕ) (a : ℕ) (xs : List ℕ) → Opens s (before ++ (a ∷ xs)) → (v : Extent) × (length_at a s (a + 1) (length s) ≡ got v (first_or (length s) xs))
opens_at s [] a xs o = o.0
opens_at s (b ∷ before) a xs o = opens_at s before a xs o.1

pub start_opens : (s : List ℕ) → (element_of s).number ≡ 0 → (before : List ℕ) (a : ℕ) (xs : List ℕ) → starts_of (element_of s) ≡ before ++ (a ∷ xs)
    → (v : Extent) × (length_at a s (a + 1) (length s) ≡ got v (first_or (length s) xs))
start_opens s e before a xs all = opens_at s before a xs (rw all at (starts_found_lem s e).opens)

-- the second octet of an accepted element counts those after it
pub element_counts : (s : List ℕ) → (element_of s).number ≡ 0 → get_or s 1 0 ≡ length s - 2
unfolding led
element_counts s e =
    let after_lead = and_right (eqb (get_or s 0 0) 0x1c) _ (and_right (ltb 3 (length s)) _ (element_found s e).0) in
    eqb-true _ _ (and_left (eqb (get_or s 1 0) (length s - 2)) _ after_lead)

-- there is something after its third octet
pub element_long : (s : List ℕ) → (element_of s).number ≡ 0 → 3 < length s
element_long s e = led_long s (element_found s e).0

-- ---- a place among the starts

module _ (place end : ℕ) where
  pub among_found : (xs : List ℕ) → Rises end xs → (q : ℕ) → after_in place end xs ≡ q → (q ≡ 0 → ⊥) → (place < q) × (q ≤ end) × (among_starts place end xs ≡ found_up_to q)
  unfolding after_in among_starts
  among_found [] r q e n = absurd (n (sym e))
  among_found (a ∷ xs) r q e n = by_cases (eqb a place)
      (λ t. let z : a ≡ place = eqb-true a place t in
      let f : first_or end xs ≡ q = rw t at e in
      (omega (arith, r.0), omega (arith, first_inside end xs r.1), rw t (ap found_up_to f)))
      (λ t. let m = among_found xs r.1 q (rw t at e) n in (m.0, m.1, rw t m.2))

  pub among_none : (xs : List ℕ) → Rises end xs → after_in place end xs ≡ 0 → among_starts place end xs ≡ none_at 0 16
  unfolding after_in among_starts
  among_none [] r e = refl
  among_none (a ∷ xs) r e = by_cases (eqb a place)
      (λ t. let f : first_or end xs ≡ 0 = rw t at e in absurd (omega (arith, r.0))) (λ t. rw t (among_none xs r.1 (rw t at e)))

-- ---- what is found at a place

pub find_malformed : (s : List ℕ) (place : ℕ) → ((element_of s).number ≡ 0 → ⊥) → found_at s place ≡ none_at 0 15
unfolding found_at
find_malformed s place n = unpicked _ _ (ne_eqb _ 0 n)

pub find_end_lem : (s : List ℕ) (place : ℕ) → (element_of s).number ≡ 0 → place ≡ length s → found_at s place ≡ none_at 1 0
unfolding found_at
find_end_lem s place f e = picked _ _ (eq-eqb _ 0 f) ∙ picked _ _ (eq-eqb place (length s) e)

module _ (s : List ℕ) (place : ℕ) (fine : (element_of s).number ≡ 0) (more : place ≡ length s → ⊥) where
  pub find_among : found_at s place ≡ among_starts place (length s) (starts_of (element_of s))
  unfolding found_at
  find_among = picked _ _ (eq-eqb _ 0 fine) ∙ unpicked _ _ (ne_eqb place (length s) more)

  pub find_none : after_in place (length s) (starts_of (element_of s)) ≡ 0 → found_at s place ≡ none_at 0 16
  find_none e = find_among ∙ among_none place (length s) _ (starts_rise s fine).0 e

  pub find_some : (q : ℕ) → after_in place (length s) (starts_of (element_of s)) ≡ q → (q ≡ 0 → ⊥) → (place < q) × (q ≤ length s) × (found_at s place ≡ found_up_to q)
  find_some q e n = let f = among_found place (length s) _ (starts_rise s fine).0 q e n in (f.0, f.1, find_among ∙ f.2)

-- ---- what any reader passes on of it

module _ {A : Type 0} (r : Reads A) (s : List ℕ) (place : ℕ) where
  by_found : Found → Passed A
  by_found f = record { ended = f.ended; after = f.after; answer = cond (eqb f.after 0) (r.none f.number) (r.by (get_or s 2 0) (part s place f.after)) }

  pub pass_none : (f : Found) → f ≡ found_at s place → f.after ≡ 0 → record { ended = f.ended; after = 0; answer = r.none f.number } ≡ pass_with r s place
  unfolding pass_with by_found
  pass_none f e z = sym (rw z refl) ∙ ap by_found e

  pub pass_some : (f : Found) (a : A) → f ≡ found_at s place → (f.after ≡ 0 → ⊥) → a ≡ r.by (get_or s 2 0) (part s place f.after)
      → record { ended = f.ended; after = f.after; answer = a } ≡ pass_with r s place
  unfolding pass_with by_found
  pass_some f a e n same = rw same (rw (ne_eqb f.after 0 n) refl) ∙ ap by_found e
