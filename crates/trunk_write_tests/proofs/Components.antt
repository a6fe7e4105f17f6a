-- A component of a trunk is valid where its lead is fine and its body fits its form.
use Rattle.prelude.proofs.Prelude.{ℕ, ◌+◌, ◌≡◌, refl, sym, ap, subst, ◌∙◌, arith, Bool, true, false, ◌&&◌, cond, leb, eqb, leb_zero, eqb-true, eqb-false, ne_eqb, ◌⊎◌, inl, inr}
use Rattle.coding.{specs.Codec.one_of, specs.Codec.prim, specs.Codec.cons, specs.Codec.alt, specs.Codec.canonical, specs.Codec.over, specs.Codec.sort, specs.Codec.frames}
use Rattle.coding.{specs.Codec.leads, specs.Codec.barring, specs.Codec.marked, specs.Codec.pick_run, specs.Leaves.number, specs.Leaves.null_leaf, specs.Leaves.identifier}
use Rattle.coding.{specs.Leaves.listed, proofs.Tests.ands, proofs.Tests.and_assoc, proofs.Tests.and-true, proofs.Tests.and-false, proofs.Tests.eqb_self}
use Rattle.prelude.proofs.Ways.{by_cases}
use Rattle.types.specs.{declared.Record.Record, Frames.value, Frames.reject, Frames.caller, Frames.problem, Frames.problems, Frames.front_by, Frames.uncharged, Frames.rejects}
use Rattle.types.specs.{Frames.same_record}
use Rattle.trunk_types.{specs.declared.Body.Body, specs.declared.Lead.Lead, specs.declared.Trunk.Trunk, specs.Bodies.detailed, specs.Bodies.extending, specs.Bodies.same_body}
use Rattle.trunk_types.{specs.Bodies.network, specs.Bodies.argument_of, specs.Bodies.result_of, specs.Extensions.parameter, specs.Extensions.unextended, proofs.BodyLaws.body_equal}
use Rattle.trunk_types.specs.Components.{lead_by, trunk_by, tags, trunk_operations, answerable, trunk_errors, carrying_body, trunk_invoke, trunk_result, failing, trunk_error}
use Rattle.trunk_types.specs.Components.{rejected, facility, trunk_frame, trunk_component}
use Rattle.write_heads.specs.inner.Fronts.{problem_fine}
use Rattle.trunk_write_tests.specs.inner.Fine.{is_pattern, called_by, lead_fine, form_of, body_fine, trunk_fine}
use Rattle.trunk_write_tests.proofs.Bodies.{argument_body, result_body, error_body, rejected_body, network_body}

-- ---- a reject

called_order : (i u v : Bool) → i && (u && v) ≡ (u && i) && v
called_order i u v = simp ands

module _ (u i p d : ℕ) where
  abbrev refusal : Record
  refusal = uncharged (front_by 4 u i 0 0 p d)

  -- a problem of any tag, beside one test
  problem_is : (c : Unit {0} ⊎ ℕ) (s : Bool) → ((tag : ℕ) → same_record (rejects c tag d) refusal ≡ s && eqb tag p) → (problems c).valid refusal ≡ s && problem_fine p d
  unfolding problems sort problem canonical over prim number
  problem_is c s same =
      rw (same 0x80, same 0x81, same 0x82, same 0x83, leb_zero d)
      (by_cases (eqb p 0x80) (λ q. rw (eqb-true p 0x80 q) (ap (λ (t : Bool). t && leb d 2) (and-true s)))
      (λ q0. by_cases (eqb p 0x81) (λ q. rw (eqb-true p 0x81 q) (ap (λ (t : Bool). t && leb d 7) (and-true s)))
      (λ q1. by_cases (eqb p 0x82) (λ q. rw (eqb-true p 0x82 q) (ap (λ (t : Bool). t && leb d 2) (and-true s)))
      (λ q2. rw (q0, q1, q2) (and_assoc s (eqb 0x83 p) (leb d 4))))))

  reject_is : reject.valid refusal ≡ cond (eqb u 1) (eqb 0 i) (eqb 0 u && is_pattern i) && problem_fine p d
  unfolding reject leads caller alt prim null_leaf identifier
  reject_is =
      by_cases (eqb u 1)
      (λ q. rw q (problem_is (inl tt) (eqb 0 i) (λ tag. rw (eqb-true u 1 q) (simp (eqb_self, and-true)))))
      (λ q. rw q (ap (λ (t : Bool). is_pattern i && t) (problem_is (inr i) (eqb 0 u) (λ tag. simp (eqb_self, and-true))) ∙ called_order (is_pattern i) (eqb 0 u) (problem_fine p d)))

-- ---- by the frame

tag : (one_of tags 0xa1 ≡ true) × ((one_of tags 0xa2 ≡ true) × ((one_of tags 0xa3 ≡ true) × ((one_of tags 0xa4 ≡ true) × (one_of tags 0xaa ≡ true))))
unfolding one_of
tag = (refl, (refl, (refl, (refl, refl))))

-- tests in another order, where what a body is tested by hangs on the operation
carried : (i o u e p x y : Bool) → (o ≡ true → x ≡ y) → i && (o && ((((u && e) && p) && true) && x)) ≡ (u && (p && (e && (i && o)))) && y
carried false o u e p x y h = simp ands
carried true false u e p x y h = simp ands
carried true true u e p x y h = rw (h refl) (simp ands)

failed_order : (i x u o p t v : Bool) → i && (x && ((((u && true) && (o && p)) && t) && v)) ≡ (u && (p && (o && (i && x)))) && (t && v)
failed_order i x u o p t v = simp ands

rejected_order : (e o c t v : Bool) → ((e && (o && true)) && t) && (c && v) ≡ (e && (o && c)) && (t && v)
rejected_order e o c t v = simp ands

network_order : (u i e o p v : Bool) → (((u && (i && e)) && (o && p)) && true) && v ≡ (u && (p && (e && (i && (o && true))))) && v
network_order u i e o p v = simp ands

module _ (u i e o p : ℕ) (b : Body) where
  abbrev lead : ℕ → Lead
  lead k = lead_by k u i e o p

  abbrev Law : ℕ → Type 0
  Law k = trunk_component.valid (trunk_by (lead k) b) ≡ trunk_fine (trunk_by (lead k) b)

  -- tests that the lead has no such part
  abbrev named : Bool
  named = eqb 0 u

  abbrev no_error : Bool
  no_error = eqb 0 e

  abbrev no_operation : Bool
  no_operation = eqb 0 o

  abbrev no_problem : Bool
  no_problem = eqb 0 p

  valid_1 : Law 1
  unfolding trunk_component frames trunk_frame trunk_invoke leads value barring prim listed identifier carrying_body canonical over marked trunk_fine lead_fine form_of
  valid_1 =
      rw (tag.0, body_equal.self b, eqb_self i, eqb_self o)
      (carried (is_pattern i) (one_of trunk_operations o) named no_error no_problem ((argument_of o).valid b) (body_fine o p b) (argument_body p b o))

  valid_2 : Law 2
  unfolding trunk_component frames trunk_frame trunk_result leads value barring prim cons listed identifier carrying_body canonical over marked trunk_fine lead_fine form_of
  valid_2 =
      rw (tag.1.0, body_equal.self b, eqb_self i, eqb_self o)
      (carried (is_pattern i) (one_of answerable o) named no_error no_problem ((result_of o).valid b) (body_fine (cond (eqb o 59) 1 2) p b) (result_body p b o))

  valid_3 : Law 3
  unfolding trunk_component frames trunk_frame trunk_error leads value barring prim listed identifier failing canonical over trunk_fine lead_fine form_of
  valid_3 =
      rw (tag.1.1.0, eqb_self i, eqb_self e)
      (failed_order (is_pattern i) (one_of trunk_errors e) named no_operation no_problem (same_body (extending b.extension) b)
      ((pick_run (eqb e 1008) parameter unextended).valid b.extension)
      ∙ ap (λ (t : Bool). (named && (no_problem && (no_operation && (is_pattern i && one_of trunk_errors e)))) && t) (error_body p b e))

  valid_4 : Law 4
  unfolding trunk_component frames trunk_frame rejected canonical over trunk_fine lead_fine form_of
  valid_4 =
      let t = same_body (detailed b.detail) b in
      rw (tag.1.1.1.0, eqb_self u, eqb_self i, eqb_self p)
      (ap (λ (r : Bool). ((no_error && (no_operation && true)) && t) && r) (reject_is u i p b.detail)
      ∙ rejected_order no_error no_operation (called_by (lead 4)) t (problem_fine p b.detail)
      ∙ ap (λ (r : Bool). (no_error && (no_operation && called_by (lead 4))) && r) (rejected_body p b))

  valid_10 : Law 10
  unfolding trunk_component frames trunk_frame facility canonical over marked trunk_fine lead_fine form_of
  valid_10 =
      rw (tag.1.1.1.1, body_equal.self b)
      (network_order named (eqb 0 i) no_error no_operation no_problem (network.valid b)
      ∙ ap (λ (t : Bool). (named && (no_problem && (no_error && (eqb 0 i && (no_operation && true))))) && t) (network_body p b))

  module _ (k : ℕ) (h1 : k ≡ 1 → ⊥) (h2 : k ≡ 2 → ⊥) (h3 : k ≡ 3 → ⊥) (h4 : k ≡ 4 → ⊥) (h10 : k ≡ 10 → ⊥) where
    none : Law k
    unfolding trunk_component frames one_of trunk_fine lead_fine
    none =
        simp (
          ne_eqb (0xa0 + k) 0xa1 (λ z. h1 (omega (arith, z))),
          ne_eqb (0xa0 + k) 0xa2 (λ z. h2 (omega (arith, z))),
          ne_eqb (0xa0 + k) 0xa3 (λ z. h3 (omega (arith, z))),
          ne_eqb (0xa0 + k) 0xa4 (λ z. h4 (omega (arith, z))),
          ne_eqb (0xa0 + k) 0xaa (λ z. h10 (omega (arith, z))),
          ne_eqb k 1 h1,
          ne_eqb k 2 h2,
          ne_eqb k 3 h3,
          ne_eqb k 4 h4,
          ne_eqb k 10 h10,
          and-false,
        )

  any : (k : ℕ) → Law k
  any k =
      at 1 valid_1 (λ h1. at 2 valid_2 (λ h2. at 3 valid_3 (λ h3. at 4 valid_4 (λ h4. at 10 valid_10 (λ h10. none k h1 h2 h3 h4 h10)))))
    where
      at : (n : ℕ) → Law n → ((k ≡ n → ⊥) → Law k) → Law k
      at n this that = by_cases (eqb k n) (λ q. subst Law (sym (eqb-true k n q)) this) (λ q. that (eqb-false k n q))

pub component_fine : (t : Trunk) → trunk_component.valid t ≡ trunk_fine t
component_fine t = let l = t.lead in any l.unnamed l.id l.error l.operation l.problem t.body l.frame
