-- A valid charge of 61, 62 or 63: what it holds, and its octets.
use Rattle.prelude.proofs.Prelude.{ℕ, ◌+◌, ◌≤◌, ◌≡◌, sym, ap, ap₂, ◌∙◌, List, ◌++◌, true, not, ◌&&◌, arith, length, length-append, eqb, leb, leb-true, eqb-true, eq-eqb, ne_eqb}
use Rattle.coding.{specs.Codec.cons, specs.Codec.pair, specs.Codec.prim, specs.Codec.sort, specs.Codec.over, specs.Codec.canonical, specs.Codec.maybe, specs.Codec.some_more}
use Rattle.coding.{specs.Leaves.number, specs.Leaves.only, specs.Leaves.given, specs.inner.Written.lead, proofs.Basic.and_left, proofs.Basic.and_right}
use Rattle.prelude.proofs.Ways.{by_cases}
use Rattle.coding.{proofs.Writing.cons_write, proofs.Small.null_write}
use Rattle.types.specs.{declared.Figure.Figure, declared.Charge.Charge, Charges.flag, Charges.no_association, Charges.association, Arguments.sign, Arguments.in_money, Arguments.ending, Arguments.settled}
use Rattle.types.specs.Arguments.{plain, money_figure, same_charge, totalled, associated, with_association, rates}
use Rattle.write_tests.{specs.inner.Fine.unmarked, specs.inner.Fine.rates_fine, proofs.Valid.bare_parts, proofs.Valid.rates_is}
use Rattle.write_elements.specs.inner.Element.{element}
use Rattle.write_figures.{specs.inner.Octets.billing_octets, specs.inner.Octets.marks, proofs.Frames.marks_ending}
use Rattle.write_rates.specs.inner.Arrays.{rates_charge}
use Rattle.trunk_types.specs.Bodies.{billings, figures, charge_for}
use Rattle.trunk_write_charges.specs.inner.Octets.{priced_octets, figure_octets, Figured}

-- ---- figures

-- written as at the end of a call of document 01
billing_write : (most : ℕ) (f : Figure) → (given 0x82 (billings most)).write (record { given = eqb f.billed 1; value = f.billing }) ≡ billing_octets 0x82 f.billed f.billing
unfolding billings only given over maybe prim number marks
billing_write most f = marks_ending 35 f (omega arith)

billing_few : (most d b : ℕ) → most ≤ 7 → (given 0x82 (billings most)).valid (record { given = eqb d 1; value = b }) ≡ true → b ≤ 7
unfolding billings only given over maybe prim number
billing_few most d b h v =
    by_cases (eqb d 1)
    (λ e. let w : (leb 0 b && leb b most) && not (eqb b 1) ≡ true = rw e at v in
    omega (arith, leb-true b most (and_right (leb 0 b) _ (and_left (leb 0 b && leb b most) _ w))))
    (λ e. let w : eqb b 0 && true ≡ true = rw e at v in omega (arith, eqb-true b 0 (and_left (eqb b 0) _ w)))

module _ (most : ℕ) (c : Charge) where
  figures_write : (figures most).write c ≡ figure_octets c.figure
  unfolding figures settled sort sign ending in_money canonical over pair figure_octets priced_octets
  figures_write =
      by_cases (eqb c.figure.kind 0) (λ e. rw e (null_write 0x80 tt)) (λ e. by_cases (eqb c.figure.kind 1) (λ g. rw (e, g) (null_write 0x81 tt)) (λ g.
      rw (e, g) (cons_write 0x30 _ c ∙ ap (element 0x30) (ap₂ (λ (x y : List ℕ). x ++ y) (cons_write 0xa1 _ _) (billing_write most c.figure)))))

  figures_hold : most ≤ 7 → (figures most).valid c ≡ true → Figured c.figure
  unfolding figures settled sort ending in_money cons canonical over pair
  figures_hold h v k0 k1 =
      let f = c.figure in
      let same = same_charge (totalled 0 (flag (eqb f.billed 1)) f.billing (totalled 0 0 0 c)) c in
      let w = and_right same _ (rw (ne_eqb f.kind 0 k0, ne_eqb f.kind 1 k1) at v) in
      let m = (in_money true).valid (totalled 0 0 0 c) in
      (and_right (same_charge (plain (money_figure f.money)) (totalled 0 0 0 c)) _ (and_left m _ w), billing_few most f.billed f.billing h (and_right m _ w))

-- ---- by the form

-- f is the charge's figure, as the code took it out
module _ (form : ℕ) (c : Charge) {f : Figure} (is : f ≡ c.figure) (v : (charge_for form).valid c ≡ true) where
  final_valid : form ≡ 61 → (with_association true (figures 7)).valid c ≡ true
  unfolding charge_for
  final_valid e = rw (eq-eqb form 61 e) at v

  final_both : form ≡ 61 → (figures 7).valid (associated no_association c) && (association true).valid c.figure.association ≡ true
  unfolding with_association canonical over pair
  final_both e = and_right (same_charge (associated c.figure.association (associated no_association c)) c) _ (final_valid e)

  pub final_figured : form ≡ 61 → Figured f
  final_figured e = rw is (figures_hold 7 (associated no_association c) (omega arith) (and_left ((figures 7).valid (associated no_association c)) _ (final_both e)))

  pub final_association : form ≡ 61 → (association true).valid f.association ≡ true
  final_association e = rw is (and_right ((figures 7).valid (associated no_association c)) _ (final_both e))

  pub interim_figured : (form ≡ 61 → ⊥) → form ≡ 62 → Figured f
  unfolding charge_for
  interim_figured d e = rw is (figures_hold 2 c (omega arith) (rw (ne_eqb form 61 d, eq-eqb form 62 e) at v))

  pub tariff_fine : (form ≡ 61 → ⊥) → (form ≡ 62 → ⊥) → (f.kind ≡ 0 → ⊥) → rates_fine true c.entries f.count ≡ true
  unfolding charge_for sort
  tariff_fine d e k0 =
      let k : c.figure.kind ≡ 0 → ⊥ = rw is at k0 in
      let w : (rates true).valid c ≡ true = rw (ne_eqb form 61 d, ne_eqb form 62 e, ne_eqb c.figure.kind 0 k) at v in
      rw is (and_right (unmarked c.figure && bare_parts c) _ (and_right (eqb 4 c.figure.kind) _ (sym (rates_is true c) ∙ w)))

module _ (form : ℕ) (c : Charge) {f : Figure} (is : f ≡ c.figure) where
  pub final_octets : form ≡ 61 → (charge_for form).write c ≡ figure_octets f ++ (association true).write f.association
  unfolding charge_for with_association canonical over pair figure_octets priced_octets
  final_octets e = rw (is, eq-eqb form 61 e) (ap (λ (xs : List ℕ). xs ++ (association true).write c.figure.association) (figures_write 7 (associated no_association c)))

  pub interim_octets : (form ≡ 61 → ⊥) → form ≡ 62 → (charge_for form).write c ≡ figure_octets f
  unfolding charge_for
  interim_octets d e = rw (is, ne_eqb form 61 d, eq-eqb form 62 e) (figures_write 2 c)

  module _ (d : form ≡ 61 → ⊥) (e : form ≡ 62 → ⊥) where
    pub none_octets : f.kind ≡ 0 → (charge_for form).write c ≡ lead 0x05 0
    unfolding charge_for sort sign canonical over
    none_octets k = let z : c.figure.kind ≡ 0 = rw is at k in rw (ne_eqb form 61 d, ne_eqb form 62 e, eq-eqb c.figure.kind 0 z) (null_write 0x05 tt)

    pub tariff_octets : (f.kind ≡ 0 → ⊥) → (charge_for form).write c ≡ rates_charge c.entries f.count
    unfolding charge_for sort rates canonical over some_more
    tariff_octets k0 = let k : c.figure.kind ≡ 0 → ⊥ = rw is at k0 in rw (is, ne_eqb form 61 d, ne_eqb form 62 e, ne_eqb c.figure.kind 0 k) (cons_write 0x30 _ c)

  -- ---- how many they are

  pub final_length : {x y : ℕ} → form ≡ 61 → x ≡ length (figure_octets f) → y ≡ length ((association true).write f.association)
      → x + y ≡ length ((charge_for form).write c)
  final_length e p q =
      omega (arith, ap length (final_octets e), length-append (figure_octets f) ((association true).write f.association), p, q)
