-- Going through an element from its first place gives what its parts give by themselves, in their order, and then the end.
use Rattle.prelude.proofs.Prelude.{ℕ, zero, suc, ◌≤◌, ◌<◌, arith, ◌≡◌, refl, sym, ap, ◌∙◌, subst, ◌⊎◌, inl, inr, List, [], ◌∷◌, ◌++◌, append_assoc, map, length, get_or, eqb, eq-eqb, ne_eqb}
use Rattle.prelude.proofs.Prelude.{eqb-true}
use Rattle.coding.proofs.Basic.{picked, unpicked}
use Rattle.types.{specs.Frames.read_of, proofs.Places.pick}
use Rattle.element.specs.{Element.element_of, Cut.starts_of, Cut.first_or, Cut.parts_of}
use Rattle.element_cut.specs.inner.Places.{after_in}
use Rattle.element_pass.specs.{declared.Found.Found, Pass.none_at, Pass.found_up_to, Pass.among_starts, Pass.found_at, Pass.Reads, Pass.Passed, Pass.at_end, Pass.no_component}
use Rattle.element_pass.specs.Pass.{component_up_to, pass_with, Through, Through.over, Through.next, lines}
use Rattle.element_pass.proofs.Order.{Rises, first_inside, starts_rise, among_found, among_none, find_end_lem, find_among, pass_none, pass_some}

-- ---- each start is found at its own place

below : (end b : ℕ) (before : List ℕ) (a : ℕ) (xs : List ℕ) → Rises end (b ∷ (before ++ (a ∷ xs))) → b < a
below end b [] a xs r = r.0
below end b (c ∷ before) a xs r = omega (arith, r.0, below end c before a xs r.1)

skips : (end : ℕ) (before : List ℕ) (a : ℕ) (xs : List ℕ) → Rises end (before ++ (a ∷ xs)) → among_starts a end (before ++ (a ∷ xs)) ≡ found_up_to (first_or end xs)
unfolding among_starts
skips end [] a xs r = picked _ _ (eq-eqb a a refl)
skips end (b ∷ before) a xs r = unpicked _ _ (ne_eqb b a (λ e. omega (arith, below end b before a xs r, e))) ∙ skips end before a xs r.1

inside : (end : ℕ) (before : List ℕ) (a : ℕ) (xs : List ℕ) → Rises end (before ++ (a ∷ xs)) → a < first_or end xs × (first_or end xs ≤ end)
inside end [] a xs r = (r.0, first_inside end xs r.1)
inside end (b ∷ before) a xs r = inside end before a xs r.1

module _ (s : List ℕ) (fine : (element_of s).number ≡ 0) (before : List ℕ) (a : ℕ) (xs : List ℕ) (all : starts_of (element_of s) ≡ before ++ (a ∷ xs)) where
  pub start_inside : a < first_or (length s) xs × (first_or (length s) xs ≤ length s)
  start_inside = inside (length s) before a xs (rw all at (starts_rise s fine).0)

  pub start_found : found_at s a ≡ found_up_to (first_or (length s) xs)
  start_found =
      find_among s a fine (λ z. omega (arith, start_inside, z)) ∙ ap (among_starts a (length s)) all ∙ skips (length s) before a xs (rw all at (starts_rise s fine).0)

module _ {A : Type 0} (r : Reads A) (s : List ℕ) (fine : (element_of s).number ≡ 0) where
  end_here : pass_with r s (length s) ≡ at_end r
  end_here = sym (pass_none r s (length s) (none_at 1 0) (sym (find_end_lem s (length s) fine refl)) refl)

  start_here : (before : List ℕ) (a : ℕ) (xs : List ℕ) → starts_of (element_of s) ≡ before ++ (a ∷ xs) → pass_with r s a ≡ component_up_to r s a (first_or (length s) xs)
  start_here before a xs e =
      sym (pass_some r s a (found_up_to (first_or (length s) xs)) _ (sym (start_found s fine before a xs e)) (λ z. omega (arith, start_inside s fine before a xs e, z)) refl)

  onward : (before xs : List ℕ) → starts_of (element_of s) ≡ before ++ xs → Through r s (first_or (length s) xs) (map (r.by (get_or s 2 0)) (parts_of s xs))
  onward before [] e = over end_here
  onward before (a ∷ xs) e = next (start_here before a xs e) (onward (before ++ (a ∷ [])) xs (e ∙ sym (append_assoc before (a ∷ []) xs)))

  -- Going through an accepted element from place 3 gives the answer of each part by itself, refused ones too, in the order of the starts, and then the end.
  pub through : Through r s 3 (map (r.by (get_or s 2 0)) (parts_of s (starts_of (element_of s))))
  through =
      subst (λ (p : ℕ). Through r s p (map (r.by (get_or s 2 0)) (parts_of s (starts_of (element_of s))))) (starts_rise s fine).1 (onward [] (starts_of (element_of s)) refl)

-- those of an element of a public line are read by document 01's table
pub line_through : (s : List ℕ) → (element_of s).number ≡ 0 → get_or s 2 0 ≡ 0x91 → Through lines s 3 (map read_of (parts_of s (starts_of (element_of s))))
line_through s fine e = subst (λ (p : ℕ). Through lines s 3 (map (lines.by p) (parts_of s (starts_of (element_of s))))) e (through lines s fine)

-- and no other answers
module _ {A : Type 0} (r : Reads A) (s : List ℕ) where
  pub through_once : (p : ℕ) (xs ys : List A) → Through r s p xs → Through r s p ys → xs ≡ ys
  through_once p [] [] (over e) (over f) = refl
  through_once p [] (y ∷ ys) (over e) (next f t) = absurd (omega (arith, ap (λ (x : Passed A). x.ended) (sym e ∙ f)))
  through_once p (x ∷ xs) [] (next e t) (over f) = absurd (omega (arith, ap (λ (x : Passed A). x.ended) (sym e ∙ f)))
  through_once p (x ∷ xs) (y ∷ ys) (next {after = q} e t) (next {after = m} f u) =
      let z = sym e ∙ f in
      let same : m ≡ q = sym (ap (λ (x : Passed A). x.after) z) in
      ap (λ (k : A). k ∷ xs) (ap (λ (x : Passed A). x.answer) z) ∙ ap (λ (k : List A). y ∷ k) (through_once q xs ys t (subst (λ (k : ℕ). Through r s k ys) same u))

-- ---- every place gives one of four: 15, 16, the end, a component with the place after it

abbrev OneOfFour : List ℕ → ℕ → Found → Type 0
OneOfFour s place x = (x ≡ none_at 0 15) ⊎ ((x ≡ none_at 0 16) ⊎ ((x ≡ none_at 1 0) ⊎ ((q : ℕ) × (place < q) × (q ≤ length s) × (x ≡ found_up_to q))))

found_one : (s : List ℕ) (place : ℕ) → OneOfFour s place (found_at s place)
unfolding found_at
found_one s place =
    pick (OneOfFour s place) (eqb (element_of s).number 0) _ _
    (λ e. pick (OneOfFour s place) (eqb place (length s)) _ _ (λ f. inr (inr (inl refl))) (λ f. found (eqb-true _ 0 e) _ refl)) (λ e. inl refl)
  where
    found : (element_of s).number ≡ 0 → (q : ℕ) → after_in place (length s) (starts_of (element_of s)) ≡ q → OneOfFour s place (among_starts place (length s) (starts_of (element_of s)))
    found fine zero e = inr (inl (among_none place (length s) _ (starts_rise s fine).0 e))
    found fine (suc q) e = let f = among_found place (length s) _ (starts_rise s fine).0 (suc q) e (λ z. omega (arith, z)) in inr (inr (inr (suc q, f.0, f.1, f.2)))

module _ {A : Type 0} (r : Reads A) (s : List ℕ) (place : ℕ) where
  abbrev pub GivesOneOfFour : Passed A → Type 0
  GivesOneOfFour x =
      (x ≡ no_component r 15) ⊎ ((x ≡ no_component r 16) ⊎ ((x ≡ at_end r) ⊎ ((q : ℕ) × (place < q) × (q ≤ length s) × (x ≡ component_up_to r s place q))))

  pub one_of_four : GivesOneOfFour (pass_with r s place)
  one_of_four = go (found_one s place)
    where
      none : (ended number : ℕ) → found_at s place ≡ none_at ended number → pass_with r s place ≡ record { ended = ended; after = 0; answer = r.none number }
      none ended number e = sym (pass_none r s place (none_at ended number) (sym e) refl)

      go : OneOfFour s place (found_at s place) → GivesOneOfFour (pass_with r s place)
      go (inl e) = inl (none 0 15 e)
      go (inr (inl e)) = inr (inl (none 0 16 e))
      go (inr (inr (inl e))) = inr (inr (inl (none 1 0 e)))
      go (inr (inr (inr (q, l, m, e)))) = inr (inr (inr (q, l, m, sym (pass_some r s place (found_up_to q) _ (sym e) (λ z. omega (arith, l, z)) refl))))
