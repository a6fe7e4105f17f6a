-- A record may be written exactly where its front may be and its charge fits it.
use Rattle.prelude.proofs.Prelude.{ℕ, zero, suc, ◌+◌, ◌<◌, arith, ◌≡◌, refl, Bool, true, false, ◌&&◌, List, [], ◌∷◌, leb, eqb, leb_zero, lt-ltb, eqb-true, ne_eqb}
use Rattle.coding.{specs.Codec.one_of, specs.Codec.prim, specs.Codec.cons, specs.Codec.alt, specs.Codec.canonical, specs.Codec.over, specs.Codec.sort, specs.Codec.frames, specs.Codec.leads}
use Rattle.coding.{specs.Codec.barring, specs.Codec.marked, specs.Leaves.number, specs.Leaves.null_leaf, specs.Leaves.identifier, specs.Leaves.listed, proofs.Tests.ands}
use Rattle.prelude.proofs.Ways.{by_cases}
use Rattle.coding.{proofs.Tests.eqb_self}
use Rattle.types.{specs.declared.Record.Record, specs.declared.Charge.Charge, specs.Arguments.no_charge, specs.Arguments.same_charge, specs.Arguments.charge_of, specs.Frames.operations}
use Rattle.types.{specs.Frames.errors, specs.Frames.component, specs.Frames.frame, specs.Frames.invoke, specs.Frames.return_result, specs.Frames.return_error, specs.Frames.reject}
use Rattle.types.{specs.Frames.value, specs.Frames.argument, specs.Frames.request, specs.Frames.carrying, specs.Frames.failed, specs.Frames.caller, specs.Frames.problem}
use Rattle.types.{specs.Frames.problems, specs.Frames.front_by, specs.Frames.same_front, proofs.ArgumentLaws.charge_equal}
use Rattle.write_heads.specs.inner.Fronts.{front_fine}
use Rattle.write_heads.specs.inner.Halves.{front_of, record_of, fine_of}

abbrev tags : List ℕ
tags = 0xa1 ∷ 0xa2 ∷ 0xa3 ∷ 0xa4 ∷ []

tag : (one_of tags 0xa1 ≡ true) × ((one_of tags 0xa2 ≡ true) × ((one_of tags 0xa3 ≡ true) × (one_of tags 0xa4 ≡ true)))
unfolding one_of
tag = (refl, (refl, (refl, refl)))

-- ---- tests in another order: what is asked of a charge last; a charge that is the record's own; a problem, by who is called and the tag that was looked for

last_asked : (h a s l : Bool) → h && ((a && s) && l) ≡ (h && (a && l)) && s
last_asked h a s l = simp ands

own_charge : (h a s v : Bool) → s ≡ true → h && ((a && s) && v) ≡ (h && a) && v
own_charge h a s v e = simp (e, ands)

problem_asked : (i o e p s l : Bool) → ((((i && o) && ((e && p) && true)) && s) && l) ≡ (i && ((o && ((e && true) && true)) && (p && l))) && s
problem_asked i o e p s l = simp ands

-- ---- by the frame

module _ (u i o e p d : ℕ) (c : Charge) (l : i < 0x10000) where
  abbrev Law : ℕ → Type 0
  Law k = component.valid (record_of (front_by k u i o e p d) c) ≡ fine_of (front_by k u i o e p d) c

  valid_1 : Law 1
  unfolding component frames frame invoke leads value barring prim listed identifier argument request carrying canonical over marked number front_fine
  valid_1 =
      by_cases (eqb o 30)
      (λ q. rw (tag.0, lt-ltb _ _ l, q, leb_zero d)
      (last_asked (one_of operations o) (same_front (front_by 1 0 i 30 0 0 d) (front_by 1 u i o e p d)) (same_charge no_charge c) (leb d 2)))
      (λ q. rw (tag.0, lt-ltb _ _ l, q)
      (own_charge (one_of operations o) (same_front (front_by 1 0 i o 0 0 0) (front_by 1 u i o e p d)) (same_charge c c) ((charge_of o).valid c) (charge_equal.self c)))

  valid_2 : Law 2
  unfolding component frames frame return_result leads value barring prim cons listed identifier carrying canonical over marked front_fine
  valid_2 =
      rw (tag.1.0, lt-ltb _ _ l)
      (own_charge (one_of (30 ∷ []) o) (same_front (front_by 2 0 i o 0 0 0) (front_by 2 u i o e p d)) (same_charge c c) ((charge_of o).valid c) (charge_equal.self c))

  valid_3 : Law 3
  unfolding component frames frame return_error failed leads value barring prim listed identifier canonical over front_fine
  valid_3 =
      rw (tag.1.1.0, lt-ltb _ _ l) (last_asked true (same_front (front_by 3 0 i 0 e 0 0) (front_by 3 u i o e p d)) (same_charge no_charge c) (one_of errors e))

  valid_4 : Law 4
  unfolding component frames frame reject leads caller alt prim null_leaf identifier problems sort problem canonical over number front_fine
  valid_4 = go (eqb u 1) (eqb p 0x80) (eqb p 0x81) (eqb p 0x82) refl refl refl refl
    where
      go : (a x y z : Bool) → eqb u 1 ≡ a → eqb p 0x80 ≡ x → eqb p 0x81 ≡ y → eqb p 0x82 ≡ z → Law 4
      go true true y z w q0 q1 q2 = rw (tag.1.1.1, eqb-true u 1 w, eqb-true p 0x80 q0, eqb_self i, eqb_self d, leb_zero d)
          (problem_asked (eqb 0 i) (eqb 0 o) (eqb 0 e) true (same_charge no_charge c) (leb d 2))
      go true false true z w q0 q1 q2 = rw (tag.1.1.1, eqb-true u 1 w, eqb-true p 0x81 q1, eqb_self i, eqb_self d, leb_zero d)
          (problem_asked (eqb 0 i) (eqb 0 o) (eqb 0 e) true (same_charge no_charge c) (leb d 7))
      go true false false true w q0 q1 q2 = rw (tag.1.1.1, eqb-true u 1 w, eqb-true p 0x82 q2, eqb_self i, eqb_self d, leb_zero d)
          (problem_asked (eqb 0 i) (eqb 0 o) (eqb 0 e) true (same_charge no_charge c) (leb d 2))
      go true false false false w q0 q1 q2 = rw (tag.1.1.1, eqb-true u 1 w, q0, q1, q2, eqb_self i, eqb_self p, eqb_self d, leb_zero d)
          (problem_asked (eqb 0 i) (eqb 0 o) (eqb 0 e) (eqb 0x83 p) (same_charge no_charge c) (leb d 4))
      go false true y z w q0 q1 q2 = rw (tag.1.1.1, w, eqb-true p 0x80 q0, lt-ltb _ _ l, eqb_self u, eqb_self i, eqb_self d, leb_zero d)
          (problem_asked (eqb 0 u) (eqb 0 o) (eqb 0 e) true (same_charge no_charge c) (leb d 2))
      go false false true z w q0 q1 q2 = rw (tag.1.1.1, w, eqb-true p 0x81 q1, lt-ltb _ _ l, eqb_self u, eqb_self i, eqb_self d, leb_zero d)
          (problem_asked (eqb 0 u) (eqb 0 o) (eqb 0 e) true (same_charge no_charge c) (leb d 7))
      go false false false true w q0 q1 q2 = rw (tag.1.1.1, w, eqb-true p 0x82 q2, lt-ltb _ _ l, eqb_self u, eqb_self i, eqb_self d, leb_zero d)
          (problem_asked (eqb 0 u) (eqb 0 o) (eqb 0 e) true (same_charge no_charge c) (leb d 2))
      go false false false false w q0 q1 q2 = rw (tag.1.1.1, w, q0, q1, q2, lt-ltb _ _ l, eqb_self u, eqb_self i, eqb_self p, eqb_self d, leb_zero d)
          (problem_asked (eqb 0 u) (eqb 0 o) (eqb 0 e) (eqb 0x83 p) (same_charge no_charge c) (leb d 4))

  none : (k : ℕ) → (k ≡ 1 → ⊥) → (k ≡ 2 → ⊥) → (k ≡ 3 → ⊥) → (k ≡ 4 → ⊥) → Law k
  unfolding component frames one_of front_fine
  none k h1 h2 h3 h4 =
      simp (
        ne_eqb (0xa0 + k) 0xa1 (λ z. h1 (omega (arith, z))),
        ne_eqb (0xa0 + k) 0xa2 (λ z. h2 (omega (arith, z))),
        ne_eqb (0xa0 + k) 0xa3 (λ z. h3 (omega (arith, z))),
        ne_eqb (0xa0 + k) 0xa4 (λ z. h4 (omega (arith, z))),
        ne_eqb k 1 h1,
        ne_eqb k 2 h2,
        ne_eqb k 3 h3,
        ne_eqb k 4 h4,
      )

  any : (k : ℕ) → Law k
  any zero = none 0 (λ z. omega arith) (λ z. omega arith) (λ z. omega arith) (λ z. omega arith)
  any (suc zero) = valid_1
  any (suc (suc zero)) = valid_2
  any (suc (suc (suc zero))) = valid_3
  any (suc (suc (suc (suc zero)))) = valid_4
  any (suc (suc (suc (suc (suc k))))) = none _ (λ z. omega arith) (λ z. omega arith) (λ z. omega arith) (λ z. omega arith)

pub valid_parts : (r : Record) → r.front.id < 0x10000 → component.valid r ≡ fine_of (front_of r) r.charge
valid_parts r l = let f = r.front in any f.unnamed f.id f.operation f.error f.problem f.detail r.charge l f.frame
