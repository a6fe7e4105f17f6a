-- Which rates may be written.
use Rattle.prelude.proofs.Prelude.{ℕ, ◌≤◌, ◌≡◌, refl, sym, ap, ◌∙◌, List, Bool, true, false, not, ◌&&◌, arith, replicate, leb, eqb, leb_zero, eqb-true}
use Rattle.prelude.proofs.{Prelude.{eqb-false, eq-eqb, leb-true, le-leb, lt-leb, not-true, not-false}, Ways.by_cases}
use Rattle.coding.specs.{Codec.{cons, prim, pair, sort, maybe, over, canonical, pick_run, same_list, valid_maybe}, Leaves.{number, null_leaf, is_some}}
use Rattle.coding.proofs.{Tests.{and-true, ands, eqb_self}, Basic.{and_left, and_right, and_both}}
use Rattle.types.specs.{declared.Rate.Rate, Charges.flag, Charges.no_money, Charges.scaled, Charges.money, Rates.scaled_or0, Rates.money_of, Rates.time_of, Rates.step_of, Rates.duration}
use Rattle.types.specs.{Rates.is_rate, Rates.flat_rate, Rates.volume, Rates.coded, Rates.plain_rate, Rates.price, Rates.itemised, Rates.rate, Arguments.same_money}
use Rattle.write_tests.proofs.Truth.{same_truth, list_self, kinds, other_kind}
use Rattle.write_rate.specs.inner.Prices.{last_kind, detail_fine, unstepped, step_fine, times_fine, amount_fine, price_fine}

-- what a test that was made says of what it tests
pub was_true : {b x : Bool} → b ≡ x → b ≡ true → x ≡ true
was_true {b} e h = sym e ∙ h

pub was_false : {b x : Bool} → b ≡ x → b ≡ false → x ≡ false
was_false {b} e h = sym e ∙ h

-- ---- the orders in which a type's tests are met and those in which they are made

duration_order : (s y z x v d t : Bool) → (s && ((y && true) && (z && true))) && (v && (d && (t && x))) ≡ d && ((t && ((s && (y && z)) && x)) && v)
duration_order s y z x v d t = simp ands

flat_order : (d s p q t u v : Bool) → ((d && s) && (((p && q) && true) && ((t && u) && true))) && v ≡ d && (((p && t) && (s && (q && u))) && v)
flat_order d s p q t u v = simp ands

volume_order : (s p q t u v d : Bool) → (s && (((p && q) && true) && ((t && u) && true))) && (v && d) ≡ d && (((p && t) && (s && (q && u))) && v)
volume_order s p q t u v d = simp ands

coded_order : (s p q m n t u c d : Bool) → (s && (((p && q) && (m && n)) && ((t && u) && c))) && d ≡ d && (((p && t) && (s && (q && u))) && (c && (m && n)))
coded_order s p q m n t u c d = simp ands

plain_order : (k d s p q m n t u c : Bool)
    → ((k && (d && s)) && (((p && q) && (m && n)) && ((t && u) && c))) && true ≡ (k && d) && (((p && t) && (s && (q && u))) && (c && (m && n)))
plain_order k d s p q m n t u c = simp ands

-- ---- by the kind

-- a step that says what it stands for
step_is : (r : Rate) → (eqb (flag (is_some (step_of r))) r.stepped
    && (eqb (scaled_or0 (step_of r)).scale r.stepscale && eqb (scaled_or0 (step_of r)).number r.step)) && valid_maybe (scaled 0xa5).valid (step_of r) ≡ step_fine r
step_is r =
    by_cases (eqb r.stepped 1) (λ e. simp (e, eq-eqb 1 r.stepped (sym (eqb-true r.stepped 1 e)), eqb_self)) (λ e. simp (e, and-true))

-- the kinds that both families have
pub common_kind : (trunk : Bool) (k : ℕ) → leb k 6 ≡ true → leb k (last_kind trunk) ≡ true
common_kind true k h = le-leb k 7 (omega (arith, leb-true k 6 h))
common_kind false k h = h

module _ (trunk : Bool) (r : Rate) where
  abbrev no_currency_test : Bool
  no_currency_test = eqb 0 r.currency.count && same_list eqb (replicate 10 0) r.currency.octets

  abbrev Law : Type 0
  Law = (price trunk).valid (itemised 0 r) ≡ price_fine trunk r

  at1 : r.kind ≡ 1 → Law
  unfolding price sort duration cons canonical over pair maybe prim number price_fine detail_fine times_fine amount_fine
  at1 is =
      simp (is, eqb_self, list_self, leb_zero)
      (duration_order (eqb (flag (is_some (step_of r))) r.stepped) (eqb (scaled_or0 (step_of r)).scale r.stepscale) (eqb (scaled_or0 (step_of r)).number r.step)
      (valid_maybe (scaled 0xa5).valid (step_of r)) ((money trunk).valid (money_of r)) (leb r.detail 1) ((scaled 0xa4).valid (time_of r))
      ∙ ap (λ (x : Bool). leb r.detail 1 && (((scaled 0xa4).valid (time_of r) && x) && (money trunk).valid (money_of r))) (step_is r))

  at2 : r.kind ≡ 2 → Law
  unfolding price sort flat_rate cons canonical over price_fine detail_fine times_fine amount_fine
  at2 is =
      simp (is, eqb_self, list_self, common_kind)
      (flat_order (eqb 0 r.detail) (eqb 0 r.stepped) (eqb 0 r.scale) (eqb 0 r.stepscale) (eqb 0 r.time) (eqb 0 r.step) ((money trunk).valid (money_of r)))

  at3 : r.kind ≡ 3 → Law
  unfolding price sort volume cons canonical over pair prim number price_fine detail_fine times_fine amount_fine
  at3 is =
      simp (is, eqb_self, list_self, leb_zero)
      (volume_order (eqb 0 r.stepped) (eqb 0 r.scale) (eqb 0 r.stepscale) (eqb 0 r.time) (eqb 0 r.step) ((money trunk).valid (money_of r)) (leb r.detail 2))

  at4 : r.kind ≡ 4 → Law
  unfolding price sort coded canonical over prim number price_fine detail_fine times_fine amount_fine
  at4 is =
      simp (is, eqb_self)
      (coded_order (eqb 0 r.stepped) (eqb 0 r.scale) (eqb 0 r.stepscale) (eqb 0 r.multiplier) (eqb 0 r.number) (eqb 0 r.time) (eqb 0 r.step)
      no_currency_test (leb 1 r.detail && leb r.detail 10))

  plain_is : (tag k : ℕ) → (plain_rate tag k).valid (itemised 0 r)
      ≡ (eqb k r.kind && eqb 0 r.detail) && (((eqb 0 r.scale && eqb 0 r.time) && unstepped r) && same_money no_money (money_of r))
  unfolding plain_rate canonical over prim null_leaf
  plain_is tag k =
      plain_order (eqb k r.kind) (eqb 0 r.detail) (eqb 0 r.stepped) (eqb 0 r.scale) (eqb 0 r.stepscale) (eqb 0 r.multiplier) (eqb 0 r.number)
      (eqb 0 r.time) (eqb 0 r.step) no_currency_test

  plain_as : (tag k : ℕ) {b : Bool} → eqb k r.kind ≡ b → (plain_rate tag k).valid (itemised 0 r)
      ≡ (b && eqb 0 r.detail) && (((eqb 0 r.scale && eqb 0 r.time) && unstepped r) && same_money no_money (money_of r))
  plain_as tag k e =
      plain_is tag k ∙ ap (λ (t : Bool). (t && eqb 0 r.detail) && (((eqb 0 r.scale && eqb 0 r.time) && unstepped r) && same_money no_money (money_of r))) e

  -- the kinds from 6 on, of which one is n
  within : (n most : ℕ) → 6 ≤ n → n ≤ most → (6 ≤ r.kind → r.kind ≤ most → r.kind ≡ n) → eqb n r.kind ≡ leb 6 r.kind && leb r.kind most
  within n most l h f =
      let k = r.kind in
      same_truth (eqb n k) (leb 6 k && leb k most)
      (λ t. let e = eqb-true n k t in and_both (leb 6 k) (leb k most) (le-leb 6 k (omega arith)) (le-leb k most (omega arith)))
      (λ t. eq-eqb n k (sym (f (leb-true 6 k (and_left (leb 6 k) (leb k most) t)) (leb-true k most (and_right (leb 6 k) (leb k most) t)))))

  last_is : (t : Bool) → (pick_run t (sort 0x85 (is_rate 6) (plain_rate 0x85 6) (plain_rate 0x86 7)) (plain_rate 0x85 6)).valid (itemised 0 r)
      ≡ ((leb 6 r.kind && leb r.kind (last_kind t)) && eqb 0 r.detail) && (((eqb 0 r.scale && eqb 0 r.time) && unstepped r) && same_money no_money (money_of r))
  unfolding sort
  last_is true =
      by_cases (eqb r.kind 6) (λ e. rw e (plain_as 0x85 6 (within 6 7 (omega arith) (omega arith) (λ l h. eqb-true r.kind 6 e))))
      (λ e. rw e (plain_as 0x86 7 (within 7 7 (omega arith) (omega arith) (λ l h. omega (arith, eqb-false r.kind 6 e)))))
  last_is false = plain_as 0x85 6 (within 6 6 (omega arith) (omega arith) (λ l h. omega arith))

  at0 : r.kind ≡ 0 → Law
  unfolding price sort price_fine detail_fine
  at0 is = simp is (simp is at (last_is trunk))

  at5 : r.kind ≡ 5 → Law
  unfolding price sort price_fine detail_fine times_fine amount_fine
  at5 is = simp (is, common_kind) (simp is at (plain_is 0x84 5))

  -- 6 or more
  late : 6 ≤ r.kind → Law
  unfolding price sort price_fine detail_fine times_fine amount_fine
  late h =
      let k = r.kind in
      simp (other_kind, le-leb 2 k (omega arith), lt-leb k 3 (omega arith)) (rw (le-leb 6 k h) at (last_is trunk))

  price_is : Law
  price_is = kinds (λ (k : ℕ). r.kind ≡ k → Law) at0 at1 at2 at3 at4 at5 (λ k h e. late (omega arith)) r.kind refl

  pub rate_is : (rate trunk).valid r ≡ leb r.item 4 && price_fine trunk r
  unfolding rate cons canonical over pair prim number
  rate_is = simp (eqb_self, list_self, leb_zero) (ap (λ (t : Bool). leb r.item 4 && t) price_is)
