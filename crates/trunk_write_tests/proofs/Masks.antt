-- A trunk's charge may be written exactly where its association and its list may, what its kind's mask leaves out is zero, and what the kind uses is in range.
use Rattle.prelude.proofs.Prelude.{ℕ, ◌≡◌, refl, sym, ap, ap₂, ◌∙◌, List, Bool, true, false, not, ◌&&◌, ◌||◌, cond, length, get_or, eqb, eqb-true, eq-eqb}
use Rattle.prelude.proofs.Ways.{by_cases}
use Rattle.coding.{proofs.Tests.ands, proofs.Tests.and_assoc, proofs.Tests.and-true, proofs.Basic.picked, proofs.Basic.unpicked}
use Rattle.types.specs.{declared.Association.Association, declared.Figure.Figure, declared.Entries.Entries, Charges.no_association, Charges.same_association, Charges.money}
use Rattle.types.{specs.Stored.figure_in, specs.Stored.money_in, specs.Stored.association_in, proofs.Stored.spread, proofs.Stored.by_octets}
use Rattle.write_masks.{specs.inner.Masks.bare_mask, proofs.Masks.none_money, proofs.Masks.none_associated, proofs.Masks.unassociated, proofs.Masks.with_money_lem, proofs.Masks.without_money_lem}
use Rattle.write_tests.proofs.Tests.{association_0}
use Rattle.trunk_write_tests.specs.{inner.Fine.names, inner.Fine.kind_fine, inner.Fine.billed_fine, inner.Fine.marked_fine, inner.Fine.amount_if}
use Rattle.trunk_write_tests.specs.{inner.Fine.other_fine, inner.Fine.list_if, inner.Fine.charge_fits, inner.Masks.billed_mask, inner.Masks.billed_by, inner.Masks.masked_fits}
use Rattle.trunk_write_tests.proofs.Charges.{no_billing}

-- an association of kind 0 is none, whatever the form
other_0 : (k : ℕ) (a : Association) → a.kind ≡ 0 → other_fine k a ≡ same_association no_association a
unfolding other_fine
other_0 k a e =
    by_cases (eqb k 61 || names k) (λ p. rw p (association_0 true a e)) (λ p. rw p (by_cases (eqb k 10) (λ t. rw (t, eq-eqb a.kind 0 e)) (λ t. rw t)))

module _ (f : ℕ → ℕ) (k : ℕ) where
  abbrev s : List ℕ
  s = spread 48 f

  abbrev g : Figure
  g = figure_in s

  abbrev a : Bool
  a = not (eqb (f 20) 0)

  -- the association's own test where there is one, and zeros where there is none
  abbrev fine : Bool
  fine = cond a (other_fine k (association_in s)) true

  by_other : other_fine k (association_in s) ≡ fine && unassociated f a
  by_other = go (eqb (f 20) 0) (other_fine k (association_in s)) (none_associated f) (λ h. other_0 k (association_in s) (eqb-true (f 20) 0 h))
    where
      go : (p v n : Bool) → (p ≡ true → v ≡ n) → v ≡ cond (not p) v true && cond (not p) true n
      go true v n e = e refl
      go false v n e = sym (and-true v)

  -- the parts, each by what it is
  as_parts : {m p : Bool} → marked_fine k g ≡ m → amount_if g ≡ p → marked_fine k g && (amount_if g && other_fine k (association_in s)) ≡ m && (p && (fine && unassociated f a))
  as_parts e q = ap₂ (λ (x y : Bool). x && y) e (ap₂ (λ (x y : Bool). x && y) q by_other)

  abbrev Masked : Type 0
  Masked = marked_fine k g && (amount_if g && other_fine k (association_in s)) ≡ fine && masked_fits a k s

  of_money : eqb (f 42) 2 ≡ true → Masked
  unfolding marked_fine billed_fine amount_if masked_fits figure_in
  of_money q =
      as_parts {m = kind_fine k (f 42) && ((eqb 0 (f 43) && eqb 0 (f 46)) && billed_by k (f 44) (f 45))} (rw q) (picked _ _ q)
      ∙ go (kind_fine k (f 42)) (eqb 0 (f 43)) (eqb 0 (f 46)) (billed_by k (f 44) (f 45)) ((money true).valid (money_in s)) fine (unassociated f a)
      ∙ ap (λ (b : Bool). fine && (kind_fine k (f 42) && b))
      (sym (picked _ _ q ∙ ap (λ (b : Bool). b && (billed_by k (f 44) (f 45) && (money true).valid (money_in s))) (with_money_lem f a billed_mask)))
    where
      go : (w t r b m v n : Bool) → (w && ((t && r) && b)) && (m && (v && n)) ≡ v && (w && ((n && (t && (r && true))) && (b && m)))
      go w t r b m v n = simp ands

  of_bare : eqb (f 42) 2 ≡ false → Masked
  unfolding marked_fine billed_fine amount_if masked_fits figure_in
  of_bare q =
      as_parts {m = kind_fine k (f 42) && ((eqb 0 (f 43) && eqb 0 (f 46)) && (eqb 0 (f 44) && eqb 0 (f 45)))} (rw (q, no_billing (f 44) (f 45))) (unpicked _ _ q)
      ∙ go (kind_fine k (f 42)) (eqb 0 (f 43)) (eqb 0 (f 46)) (eqb 0 (f 44)) (eqb 0 (f 45)) (none_money f) fine (unassociated f a)
      ∙ ap (λ (b : Bool). fine && (kind_fine k (f 42) && b)) (sym (unpicked _ _ q ∙ without_money_lem f a bare_mask))
    where
      go : (w t r d b m v n : Bool) → (w && ((t && r) && (d && b))) && (m && (v && n)) ≡ v && (w && (m && (n && (t && (d && (b && (r && true)))))))
      go w t r d b m v n = simp ands

  by_kind : Masked
  by_kind = by_cases (eqb (f 42) 2) of_money of_bare

module _ (k : ℕ) (s : List ℕ) where
  abbrev other : Bool → Bool
  other a = cond a (other_fine k (association_in s)) true

  -- by the tests that the code made
  pub by_masks : {a x : Bool} (e : Entries) → length s ≡ 48 → a ≡ not (eqb (get_or s 20 0) 0)
      → x ≡ other a && (masked_fits a k s && list_if (record { figure = figure_in s; entries = e })) → x ≡ charge_fits k (record { figure = figure_in s; entries = e })
  unfolding charge_fits figure_in
  by_masks {a} e l h q =
      let list = list_if (record { figure = figure_in s; entries = e }) in
      let marked : marked_fine k (figure_in s) && (amount_if (figure_in s) && other_fine k (association_in s)) ≡ other a && masked_fits a k s
      = by_octets 48 (λ (s : List ℕ). marked_fine k (figure_in s) && (amount_if (figure_in s) && other_fine k (association_in s))
      ≡ cond (not (eqb (get_or s 20 0) 0)) (other_fine k (association_in s)) true && masked_fits (not (eqb (get_or s 20 0) 0)) k s) (λ f. by_kind f k) s l
      ∙ ap (λ (b : Bool). other b && masked_fits b k s) (sym h) in
      q ∙ sym (and_assoc (other a) (masked_fits a k s) list) ∙ ap (λ (b : Bool). b && list) (sym marked)
