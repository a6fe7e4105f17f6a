-- A trunk's charge is valid where its parts fit the form: its small fields, its money, its association and its list.
use Rattle.prelude.proofs.Prelude.{ℕ, ◌≤◌, ◌≡◌, refl, sym, ap, ◌∙◌, List, Bool, true, false, ◌&&◌, and-false, or-false, cond, arith, leb, eqb, leb_zero, lt-leb, leb-true, eqb-true}
use Rattle.coding.{specs.Codec.Leaf, specs.Codec.canonical, specs.Codec.over, specs.Codec.prim, specs.Codec.pair, specs.Codec.sort, specs.Leaves.number, specs.Leaves.only}
use Rattle.coding.{specs.Leaves.null_leaf}
use Rattle.coding.{proofs.Padded.eqb_equal, proofs.Padded.list_equal, proofs.Tests.and-true, proofs.Tests.eqb_self, specs.Codec.same_list}
use Rattle.prelude.proofs.Ways.{by_cases}
use Rattle.types.specs.{declared.Figure.Figure, declared.Charge.Charge, Charges.money, Charges.association}
use Rattle.types.specs.{Charges.no_money, Charges.no_association, Charges.same_association, Arguments.no_charge, Arguments.same_money, Arguments.same_charge, Arguments.sign, Arguments.in_money}
use Rattle.types.specs.{Arguments.totalled, Arguments.associated, Arguments.ending, Arguments.settled, Arguments.with_association, Arguments.rates, Arguments.is_kind}
use Rattle.trunk_types.specs.Bodies.{billings, figures}
use Rattle.write_tests.{specs.inner.Fine.unmarked, proofs.Valid.no_list, proofs.Valid.sign_is, proofs.Valid.inMoney-is, proofs.Valid.rates_is}
use Rattle.write_tests.proofs.{Valid.billed_by, Valid.ending_by, Valid.whole, Truth.money_order, Truth.last_order, Truth.kinds, Truth.other_kind, Truth.other_kind'}
use Rattle.trunk_write_tests.specs.inner.Fine.{kind_fine, is_billing, billed_fine, marked_fine, amount_if, other_fine, list_if, charge_fits}

pub list_self : (xs : List ℕ) → same_list eqb xs xs ≡ true
list_self xs = (list_equal eqb eqb_equal).self xs

-- ---- money, and the billing as a leaf has it

abbrev priced : Leaf ℕ → Charge → Bool
priced l c = (eqb 0 c.figure.total && eqb 0 c.figure.arrangement) && billed_by l c.figure

money_by_lem : (l : Leaf ℕ) (c : Charge) → (ending l (in_money true)).valid c
    ≡ eqb 2 c.figure.kind && ((priced l c && ((money true).valid c.figure.money && same_association no_association c.figure.association)) && no_list c)
money_by_lem l c =
    ending_by l (in_money true) c ∙ ap (λ (t : Bool). t && (eqb 0 c.figure.total && billed_by l c.figure)) (inMoney-is true (totalled 0 0 0 c))
    ∙ money_order (eqb 2 c.figure.kind) (eqb 0 c.figure.arrangement) (same_association no_association c.figure.association) (no_list c)
    ((money true).valid c.figure.money) (eqb 0 c.figure.total) (billed_by l c.figure)

-- ---- the association judged by itself, by any test

module _ (c : Charge) (s : Bool) where
  abbrev alone : Charge
  alone = associated no_association c

  pub sign_with : (tag k : ℕ) → (sign tag k).valid alone && s ≡ eqb k c.figure.kind && ((unmarked c.figure && (same_money no_money c.figure.money && s)) && no_list c)
  sign_with tag k =
      ap (λ (t : Bool). t && s) (sign_is tag k alone) ∙ last_order (eqb k c.figure.kind) (unmarked c.figure) (same_money no_money c.figure.money) (no_list c) s

  pub nothing_with : same_charge (associated c.figure.association no_charge) c && s
      ≡ eqb 0 c.figure.kind && ((unmarked c.figure && (same_money no_money c.figure.money && s)) && no_list c)
  unfolding sign canonical over prim null_leaf
  nothing_with =
      let e : same_charge (associated c.figure.association no_charge) c ≡ (sign 0 0).valid alone = simp (eqb_self, list_self) (sym (and-true _)) in
      ap (λ (t : Bool). t && s) e ∙ sign_with 0 0

  pub money_with : (l : Leaf ℕ) → (ending l (in_money true)).valid alone && s
      ≡ eqb 2 c.figure.kind && ((priced l c && ((money true).valid c.figure.money && s)) && no_list c)
  money_with l =
      ap (λ (t : Bool). t && s) (money_by_lem l alone) ∙ last_order (eqb 2 c.figure.kind) (priced l c) ((money true).valid c.figure.money) (no_list c) s

-- ---- by the kind

-- a kind that has no billing
pub no_billing : (d b : ℕ) → cond (eqb d 1) false (eqb 0 d && eqb 0 b) ≡ eqb 0 d && eqb 0 b
no_billing d b = by_cases (eqb d 1) (λ q. rw (q, eqb-true d 1 q)) (λ q. rw q)

pub past_kind : (k n : ℕ) → 6 ≤ k → leb n 5 ≡ true → leb k n ≡ false
past_kind k n h l = lt-leb k n (omega (arith, leb-true n 5 l))

module _ (c : Charge) where
  abbrev figure : Figure
  figure = c.figure

  -- the same, of any kind
  abbrev of : ℕ → Charge
  of k = whole figure.money figure.association k figure.total figure.billed figure.billing figure.arrangement figure.count c.entries

  -- a form that has no charge
  none_of : (form : ℕ) (s : Bool) → ((k : ℕ) → kind_fine form k ≡ eqb k 0) → other_fine form figure.association ≡ s
      → eqb 0 figure.kind && ((unmarked figure && (same_money no_money figure.money && s)) && no_list c) ≡ charge_fits form c
  unfolding charge_fits marked_fine billed_fine amount_if list_if
  none_of form s bare o =
      kinds (λ (k : ℕ). eqb 0 k && ((unmarked (of k).figure && (same_money no_money figure.money && s)) && no_list (of k)) ≡ charge_fits form (of k))
      (simp (bare, o, no_billing)) (simp bare) (simp bare) (simp bare) (simp bare) (simp bare) (λ k h. simp (other_kind', bare, other_kind)) figure.kind

  final_of : (k : ℕ) → (figures 7).valid (associated no_association (of k)) && (association true).valid figure.association ≡ charge_fits 61 (of k)
  unfolding figures settled sort charge_fits marked_fine kind_fine billed_fine is_billing amount_if other_fine list_if billings only number
  final_of =
      let s = (association true).valid figure.association in
      kinds (λ (k : ℕ). (figures 7).valid (associated no_association (of k)) && s ≡ charge_fits 61 (of k))
      (simp no_billing (sign_with (of 0) s 0x80 0)) (simp no_billing (sign_with (of 1) s 0x81 1)) (money_with (of 2) s (billings 7) ∙ simp leb_zero)
      (money_with (of 3) s (billings 7)) (money_with (of 4) s (billings 7)) (money_with (of 5) s (billings 7))
      (λ k h. simp other_kind (money_with (of k) s (billings 7) ∙ simp (other_kind, other_kind', past_kind)))

  pub final_fits : (with_association true (figures 7)).valid c ≡ charge_fits 61 c
  unfolding with_association canonical over pair
  final_fits = simp (eqb_self, list_self) (final_of figure.kind)

  pub interim_fits : (figures 2).valid c ≡ charge_fits 62 c
  unfolding figures settled sort charge_fits marked_fine kind_fine billed_fine is_billing amount_if other_fine list_if billings only number
  interim_fits =
      kinds (λ (k : ℕ). (figures 2).valid (of k) ≡ charge_fits 62 (of k))
      (simp no_billing (sign_is 0x80 0 (of 0))) (simp no_billing (sign_is 0x81 1 (of 1))) (money_by_lem (billings 2) (of 2) ∙ simp leb_zero) (money_by_lem (billings 2) (of 3))
      (money_by_lem (billings 2) (of 4)) (money_by_lem (billings 2) (of 5)) (λ k h. simp other_kind (money_by_lem (billings 2) (of k) ∙ simp (other_kind, other_kind', past_kind)))
      figure.kind

  pub tariff_fits : (sort 0x05 (is_kind 0) (sign 0x05 0) (rates true)).valid c ≡ charge_fits 63 c
  unfolding sort charge_fits marked_fine kind_fine billed_fine amount_if other_fine list_if
  tariff_fits =
      kinds (λ (k : ℕ). (sort 0x05 (is_kind 0) (sign 0x05 0) (rates true)).valid (of k) ≡ charge_fits 63 (of k))
      (simp no_billing (sign_is 0x05 0 (of 0))) (rates_is true (of 1)) (rates_is true (of 2)) (rates_is true (of 3)) (simp no_billing (rates_is true (of 4)))
      (rates_is true (of 5))
      (λ k h. simp other_kind (rates_is true (of k) ∙ simp (other_kind, other_kind', past_kind))) figure.kind

  -- no charge, beside an association by any test, or none
  module _ (form : ℕ) (bare : (k : ℕ) → kind_fine form k ≡ eqb k 0) where
    pub other_fits : same_charge (associated figure.association no_charge) c && other_fine form figure.association ≡ charge_fits form c
    other_fits = nothing_with c (other_fine form figure.association) ∙ none_of form (other_fine form figure.association) bare refl

    pub none_fits : other_fine form figure.association ≡ same_association no_association figure.association → same_charge no_charge c ≡ charge_fits form c
    unfolding sign canonical over prim null_leaf
    none_fits o = sym (and-true (same_charge no_charge c)) ∙ sign_is 0 0 c ∙ none_of form (same_association no_association figure.association) bare o

-- a form that names none of 61, 62 and 63
pub kindless : (form k : ℕ) → eqb form 61 ≡ false → eqb form 62 ≡ false → eqb form 63 ≡ false → kind_fine form k ≡ eqb k 0
unfolding kind_fine
kindless form k a b c = simp (a, b, c, and-false, or-false)
