-- Going through an element from place to place: what a loop knows, and that the tile at a place is what is found there.
use Rattle.prelude.proofs.Prelude.{ℕ, ◌+◌, ◌≤◌, ◌<◌, arith, ◌≡◌, refl, sym, ap, ◌∙◌, Bool, true, false, true≢false, cond, List, [], ◌∷◌, ◌++◌, append_assoc, length, get_or, eqb, eqb-true, eq-eqb}
use Rattle.prelude.proofs.Ways.{by_cases}
use Rattle.coding.{specs.declared.Extent.Extent, specs.Reader.Ans, specs.Reader.Ans.got, specs.Reader.Ans.halt, specs.Reader.opened, specs.Reader.part, specs.inner.Shown.shown}
use Rattle.coding.proofs.Header.{opened_there}
use Rattle.element.specs.{Element.led, Element.tiles_in, Element.starts_found, Element.malformed, Element.element_of, Cut.starts_of, Cut.first_or, Cut.parts_of}
use Rattle.element_cut.specs.inner.Places.{Along}
use Rattle.element_pass.specs.{declared.Found.Found, Pass.found_up_to, Pass.found_at}
use Rattle.element_pass.proofs.{Order.starts_rise, Order.start_opens, Order.find_malformed, Order.find_end_lem, Through.start_inside, Through.start_found}

-- ---- where a walk may stand

pub along_first : (s : List ℕ) → (element_of s).number ≡ 0 → Along s 3
along_first s fine = record { fine = fine; before = []; left = starts_of (element_of s); all = refl; here = (starts_rise s fine).1 }

module _ (s : List ℕ) (fine : (element_of s).number ≡ 0) (before : List ℕ) where
  inside_by : (left : List ℕ) → starts_of (element_of s) ≡ before ++ left → first_or (length s) left ≤ length s
  inside_by [] all = omega arith
  inside_by (a ∷ xs) all = omega (arith, start_inside s fine before a xs all)

  tile_by : (left : List ℕ) → starts_of (element_of s) ≡ before ++ left → (place : ℕ) → first_or (length s) left ≡ place → (place ≡ length s → ⊥)
      → {k p n : ℕ} {v : Extent} (z : Extent) → (k, p, v, n) ≡ shown z (opened (get_or s place 0) s place (length s)) → found_up_to n ≡ found_at s place
  unfolding shown
  tile_by [] all place e more z is = absurd (more (sym e))
  tile_by (a ∷ xs) all place e more z is =
      let o = start_opens s fine before a xs all in
      let i = start_inside s fine before a xs all in
      let t = opened_there (get_or s a 0) s a (length s) (omega (arith, i)) refl ∙ o.1 in
      let n_is = ap (λ q. q.3) (rw (← e, t) at is) in
      ap found_up_to n_is ∙ sym (start_found s fine before a xs all) ∙ ap (found_at s) e

pub along_inside : (s : List ℕ) (place : ℕ) → Along s place → place ≤ length s
along_inside s place w = omega (arith, w.here, inside_by s w.fine w.before w.left w.all)

pub tile_found : (s : List ℕ) (place : ℕ) → Along s place → (place ≡ length s → ⊥)
    → {k p n : ℕ} {v : Extent} (z : Extent) → (k, p, v, n) ≡ shown z (opened (get_or s place 0) s place (length s)) → found_up_to n ≡ found_at s place
tile_found s place w = tile_by s w.fine w.before w.left w.all place w.here

-- ---- what a loop knows: what is found at its place, and the starts from there on, none of a malformed element

pub record Goes (s : List ℕ) (place : ℕ) (f : Found) (left : List ℕ) : Type 0 where
  pub found : f ≡ found_at s place
  pub before : List ℕ
  pub all : starts_of (element_of s) ≡ before ++ left
  pub here : (element_of s).number ≡ 0 → first_or (length s) left ≡ place

-- and where a component is found: its octets, and what the loop knows at the place after it
pub record Here (s : List ℕ) (place : ℕ) (f : Found) (left : List ℕ) : Type 0 where
  pub rest : List ℕ
  pub parts : parts_of s left ≡ part s place f.after ∷ parts_of s rest
  pub begins : place < f.after
  pub ends : f.after ≤ length s
  pub along : Along s f.after
  pub onward : {g : Found} → g ≡ found_at s f.after → Goes s f.after g rest

pub goes_first : (s : List ℕ) {f : Found} → f ≡ found_at s 3 → Goes s 3 f (starts_of (element_of s))
goes_first s e = record { found = e; before = []; all = refl; here = λ z. (starts_rise s z).1 }

pub startless : (s : List ℕ) → eqb (element_of s).number 0 ≡ false → starts_of (element_of s) ≡ []
unfolding element_of starts_found
startless s n = go (led s) (tiles_in s) n
  where
    go : (b : Bool) (x : Ans (List ℕ)) → eqb (cond b (starts_found x) malformed).number 0 ≡ false → starts_of (cond b (starts_found x) malformed) ≡ []
    go true (got xs last) n = absurd (true≢false n)
    go true (halt w p) n = refl
    go false x n = refl

nil_after : (before left : List ℕ) → before ++ left ≡ [] → left ≡ []
nil_after [] left e = e
nil_after (a ∷ before) left e = absurd (omega (arith, ap length e))

module _ {s : List ℕ} {place : ℕ} {f : Found} where
  after_by : (a : ℕ) (xs : List ℕ) (g : Goes s place f (a ∷ xs)) → (element_of s).number ≡ 0 → f.after ≡ first_or (length s) xs
  after_by a xs g fine = ap (λ (x : Found). x.after) (g.found ∙ ap (found_at s) (sym (g.here fine)) ∙ start_found s fine g.before a xs g.all)

  pub goes_none : {left : List ℕ} → Goes s place f left → f.after ≡ 0 → left ≡ []
  goes_none {left = []} g z = refl
  goes_none {left = a ∷ xs} g z =
      by_cases (eqb (element_of s).number 0)
      (λ t. let fine = eqb-true _ 0 t in absurd (omega (arith, z, after_by a xs g fine, (start_inside s fine g.before a xs g.all).0)))
      (λ t. nil_after g.before (a ∷ xs) (sym g.all ∙ startless s t))

  pub goes_on : {left : List ℕ} → Goes s place f left → (f.after ≡ 0 → ⊥) → Here s place f left
  goes_on {left} g n =
      by_cases (eqb (element_of s).number 0) (λ t. go left g (eqb-true _ 0 t))
      (λ t. absurd (n (ap (λ (x : Found). x.after) (g.found ∙ find_malformed s place (λ z. true≢false (sym (eq-eqb _ 0 z) ∙ t))))))
    where
      go : (left : List ℕ) → Goes s place f left → (element_of s).number ≡ 0 → Here s place f left
      go [] g fine = absurd (n (ap (λ (x : Found). x.after) (g.found ∙ find_end_lem s place fine (sym (g.here fine)))))
      go (a ∷ xs) g fine =
          let e = g.here fine in
          let i = start_inside s fine g.before a xs g.all in
          let q = after_by a xs g fine in
          let all = g.all ∙ sym (append_assoc g.before (a ∷ []) xs) in record {
            rest = xs;
            parts = rw (q, ← e) refl;
            begins = omega (arith, i, q, e);
            ends = omega (arith, i, q);
            along = record { fine = fine; before = g.before ++ (a ∷ []); left = xs; all = all; here = sym q };
            onward = λ is. record { found = is; before = g.before ++ (a ∷ []); all = all; here = λ _. sym q };
          }
