-- The place after the component that is looked for, in the loop over an element's components.
use Rattle.prelude.proofs.{Prelude.{ℕ, ◌<◌, arith, ◌≡◌, refl, sym, List, [], ◌∷◌, ◌++◌, length, cond, eqb, eqb-true, ne_eqb, take-append_seam}, Ways.by_cases}
use Rattle.coding.specs.Codec.{pad}
use Rattle.element.specs.{Cut.starts_of, Cut.first_or}
use Rattle.element_cut.specs.inner.Places.{after_in}

-- each start lies below a place
abbrev pub Below : ℕ → List ℕ → Type 0
Below i [] = Unit {0}
Below i (a ∷ xs) = (a < i) × Below i xs

pub below_more : (i n : ℕ) (xs : List ℕ) → i < n → Below i xs → Below n (xs ++ (i ∷ []))
below_more i n [] h b = (h, tt)
below_more i n (a ∷ xs) h b = (omega (arith, b.0), below_more i n xs h b.1)

first_more : (i n : ℕ) (xs : List ℕ) → first_or n (xs ++ (i ∷ [])) ≡ first_or i xs
first_more i n [] = refl
first_more i n (a ∷ xs) = refl

-- one start more: it is the one that is looked for, or as before
pub after_more : (place i n : ℕ) (xs : List ℕ) → Below i xs → cond (eqb i place) n (after_in place i xs) ≡ after_in place n (xs ++ (i ∷ []))
unfolding after_in
after_more place i n [] b = refl
after_more place i n (a ∷ xs) b =
    by_cases (eqb a place)
    (λ t. let z : a ≡ place = eqb-true a place t in
    let o : i ≡ place → ⊥ = λ e. omega (arith, b.0, z, e) in
    rw (t, ne_eqb i place o) (sym (first_more i n xs)))
    (λ t. rw t (after_more place i n xs b.1))

pub starts_padded : (xs : List ℕ) → starts_of (record { number = 0; count = length xs; starts = pad 127 0 xs }) ≡ xs
unfolding pad
starts_padded xs = take-append_seam xs _
