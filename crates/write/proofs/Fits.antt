-- A charge and its front.
use Rattle.prelude.proofs.Prelude.{ℕ, ◌≤◌, arith, ◌≡◌, refl, ap, sym, ◌∙◌, Bool, true, false, ◌&&◌, ◌||◌, true≢false, cond, [], ◌∷◌, ltb, eqb, ltb-true, ltb-false, eqb-true, eqb-false}
use Rattle.prelude.proofs.{Prelude.eq-eqb, Ways.by_cases}
use Rattle.coding.{specs.Codec.one_of, specs.Codec.sort, specs.Codec.canonical, specs.Codec.over, specs.Codec.prim, specs.Leaves.null_leaf, proofs.Basic.picked, proofs.Basic.unpicked}
use Rattle.coding.proofs.{Basic.and_left, Basic.and_right, Tests.and-true}
use Rattle.types.{specs.declared.Charge.Charge, specs.Arguments.no_charge, specs.Arguments.same_charge, specs.Arguments.sign, specs.Arguments.charge_of, specs.Frames.operations}
use Rattle.types.{proofs.ArgumentLaws.charge_equal, specs.declared.Front.Front}
use Rattle.read_heads.proofs.Codes.{has_below, operation_below}
use Rattle.write_heads.{specs.inner.{Fronts.{front_fine, charged}, Halves.{charge_fine, fine_of}}, proofs.Sizes.reject_problem}

-- no charge is a charge of any operation that is not available
pub none_is : (c : Charge) (o : ℕ) → c.figure.kind ≡ 0 → (charge_of o).valid c ≡ same_charge no_charge c
unfolding charge_of sort sign canonical over prim null_leaf
none_is c o e = rw (eq-eqb _ _ e) (and-true (same_charge no_charge c))

some_is_not : (c : Charge) → (c.figure.kind ≡ 0 → ⊥) → same_charge no_charge c ≡ false
some_is_not c h =
    by_cases (same_charge no_charge c) (λ q. absurd (h (sym (ap (λ (x : Charge). x.figure.kind) (charge_equal.equal no_charge c q))))) (λ q. q)

-- a front that a charge follows has an operation from 30 to 36
known_range : (o : ℕ) → one_of operations o ≡ true → (30 ≤ o) × (o ≤ 36)
known_range o h = (
  by_cases (ltb o 30) (λ q. absurd (true≢false (sym h ∙ sym (operation_below o (ltb-true o 30 q))))) (λ q. ltb-false o 30 q),
  omega (arith, has_below 37 operations o refl h),
)

only_30 : (o : ℕ) → one_of (30 ∷ []) o ≡ true → (30 ≤ o) × (o ≤ 36)
unfolding one_of
only_30 o h = by_cases (eqb o 30) (λ q. omega (arith, eqb-true o 30 q)) (λ q. absurd (true≢false (sym (rw q at h))))

module _ (f : Front) (v : front_fine f ≡ true) where
  pub operation_range : charged f ≡ true → (30 ≤ f.operation) × (f.operation ≤ 36)
  unfolding front_fine
  operation_range h =
      by_cases (eqb f.frame 1) (λ q. known_range f.operation (and_left (one_of operations f.operation) _ (rw q at v))) (λ q.
      by_cases (eqb f.frame 2) (λ w. only_30 f.operation (and_left (one_of (30 ∷ []) f.operation) _ (rw (q, w) at v))) (λ w.
      absurd (true≢false (sym (rw (q, w) at h)))))

  pub frame_few : f.frame ≤ 4
  frame_few =
      by_cases (eqb f.frame 1) (λ q. omega (arith, eqb-true f.frame 1 q)) (λ q1.
      by_cases (eqb f.frame 2) (λ q. omega (arith, eqb-true f.frame 2 q)) (λ q2.
      by_cases (eqb f.frame 3) (λ q. omega (arith, eqb-true f.frame 3 q)) (λ q3.
      omega (arith, (reject_problem f v (eqb-false _ _ q1) (eqb-false _ _ q2) (eqb-false _ _ q3)).0))))

-- the parts of a record that may be written
module _ (f : Front) (c : Charge) (v : fine_of f c ≡ true) where
  pub its_front : front_fine f ≡ true
  its_front = and_left (front_fine f) _ v

  pub its_charge : charged f ≡ true → (charge_of f.operation).valid c ≡ true
  its_charge q = sym (picked _ _ q) ∙ and_right (front_fine f) (charge_fine f c) v

-- where no charge follows there is none; and it is tested by its own operation, or by one to which none is fine
module _ (f : Front) (c : Charge) (v : front_fine f ≡ true) where
  front_first : fine_of f c ≡ charge_fine f c
  front_first = ap (λ (b : Bool). b && charge_fine f c) v

  pub held_not : (charged f || eqb c.figure.kind 0) ≡ false → false ≡ fine_of f c
  held_not h =
      by_cases (charged f) (λ q. absurd (true≢false (rw q at h))) (λ q.
      sym (front_first ∙ unpicked _ _ q ∙ some_is_not c (eqb-false c.figure.kind 0 (rw q at h))))

  pub held_tested : (charged f || eqb c.figure.kind 0) ≡ true → (o : ℕ) → o ≡ cond (charged f) f.operation 32 → (charge_of o).valid c ≡ fine_of f c
  held_tested h o is =
      by_cases (charged f) (λ q. ap (λ (n : ℕ). (charge_of n).valid c) (is ∙ picked f.operation 32 q) ∙ sym (picked _ _ q)) (λ q.
      none_is c o (eqb-true c.figure.kind 0 (rw q at h)) ∙ sym (unpicked _ _ q)) ∙ sym front_first
