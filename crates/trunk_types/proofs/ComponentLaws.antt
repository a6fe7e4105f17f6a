-- The laws of each frame and of a component.
use Rattle.prelude.proofs.Prelude.{ℕ, ◌+◌, ◌≡◌, refl, true, false, arith, eqb, eqb-true}
use Rattle.coding.{specs.Reader.Fault.named, specs.Codec.Run, specs.Codec.one_of, specs.Codec.apart, specs.Codec.prim, specs.Codec.barring}
use Rattle.coding.{proofs.Basic.or-false, proofs.Laws.RunLaws, proofs.Frame.pick_laws, proofs.More.marked_laws, proofs.Frames.frames_laws, proofs.Padded.Equal}
use Rattle.coding.{proofs.Padded.eqb_equal, proofs.Padded.pair_equal, proofs.Padded.via_equal}
use Rattle.types.specs.{Frames.outside, Frames.in_argument, Frames.value}
use Rattle.types.proofs.{Chains.Known, Chains.weaken, Chains.made, Chains.held, Chains.led, Chains.chosen, FrameLaws.id_laws, FrameLaws.value_laws, FrameLaws.rejections}
use Rattle.trunk_types.specs.{declared.Body.Body, declared.Trunk.Trunk, Bodies.extending, Components.lead_by, Components.trunk_by, Components.same_lead}
use Rattle.trunk_types.specs.{Components.same_trunk, Components.id_of, Components.trunk_operations, Components.answerable, Components.carrying_body, Components.trunk_invoke, Components.trunk_result}
use Rattle.trunk_types.specs.{Components.trunk_errors, Components.failing, Components.trunk_error, Components.of_reject, Components.reject_of, Components.rejected, Components.in_network}
use Rattle.trunk_types.specs.{Components.facility, Components.tags, Components.trunk_frame, Components.trunk_component}
use Rattle.trunk_types.proofs.{ExtensionLaws.unextendeds, ExtensionLaws.parameters, BodyLaws.body_equal, BodyLaws.networks, BodyLaws.argument_laws, BodyLaws.result_laws}

lead_equal : Equal same_lead
lead_equal =
    via_equal (λ l. (((l.frame, l.unnamed), (l.id, l.error)), (l.operation, l.problem)))
    (λ p. lead_by p.0.0.0 p.0.0.1 p.0.1.0 p.0.1.1 p.1.0 p.1.1) (λ l. refl) _
    (pair_equal _ _ (pair_equal _ _ (pair_equal _ _ eqb_equal eqb_equal) (pair_equal _ _ eqb_equal eqb_equal)) (pair_equal _ _ eqb_equal eqb_equal))

pub trunk_equal : Equal same_trunk
trunk_equal = via_equal (λ r. (r.lead, r.body)) (λ p. trunk_by p.0 p.1) (λ r. refl) _ (pair_equal _ _ lead_equal body_equal)

-- a record of a frame
abbrev Framed : ℕ → Run Trunk → Type 0
Framed k = Known (λ r. r.lead.frame ≡ k)

-- ---- A1, A2

abbrev Of : ℕ → ℕ → ℕ → Trunk → Type 0
Of k i o r = (r.lead.operation ≡ o) × ((r.lead.id ≡ i) × (r.lead.frame ≡ k))

carryings : (k i o : ℕ) {f : Run Body} → RunLaws f → Known (Of k i o) (carrying_body k i o f)
unfolding carrying_body
carryings k i o F = made trunk_equal (trunk_by (lead_by k 0 i 0 o 0)) (λ r. r.body) _ (λ b v. refl) (λ b v. (refl, (refl, refl))) (marked_laws in_argument _ F)

invokes : Framed 1 trunk_invoke
unfolding trunk_invoke value barring prim
invokes =
    led _ id_of _ id_laws (λ i. led _ (λ r. r.lead.operation) _ (value_laws 7 trunk_operations refl) (λ o. carryings 1 i o (argument_laws o)) refl (λ o. refl)) refl (λ o. refl)

results : Framed 2 trunk_result
unfolding trunk_result value barring prim
results =
    led _ id_of _ id_laws (λ i. held _ (led _ (λ r. r.lead.operation) _ (value_laws 7 answerable refl) (λ o. carryings 2 i o (result_laws o)) refl (λ o. refl)) refl) refl (λ o. refl)

-- ---- A3

failings : (i e : ℕ) → Known (λ r. (r.lead.error ≡ e) × ((r.lead.id ≡ i) × (r.lead.frame ≡ 3))) (failing i e)
unfolding failing
failings i e =
    made trunk_equal (λ x. trunk_by (lead_by 3 0 i e 0 0) (extending x)) (λ r. r.body.extension) _ (λ x v. refl) (λ x v. (refl, (refl, refl)))
    (pick_laws (eqb e 1008) _ _ parameters.laws unextendeds.laws)

return_errors : Framed 3 trunk_error
unfolding trunk_error value barring prim
return_errors =
    led _ id_of _ id_laws (λ i. led _ (λ r. r.lead.error) _ (value_laws 8 trunk_errors refl) (failings i) refl (λ o. refl)) refl (λ o. refl)

-- ---- A4, AA

all_rejected : Framed 4 rejected
unfolding rejected
all_rejected = made trunk_equal of_reject reject_of _ (λ r v. (rejections.is r v).1) (λ r v. (rejections.is r v).0) rejections.laws

facilities : Framed 10 facility
unfolding facility
facilities = made trunk_equal (trunk_by (lead_by 10 0 0 0 0 0)) (λ r. r.body) _ (λ b v. refl) (λ b v. refl) (marked_laws in_network _ networks)

-- ---- a component

last_tag : (t : ℕ) → eqb t 0xa1 ≡ false → eqb t 0xa2 ≡ false → eqb t 0xa3 ≡ false → eqb t 0xa4 ≡ false → one_of tags t ≡ true → t ≡ 0xaa
unfolding one_of
last_tag t p q r u h = eqb-true t 0xaa (or-false (eqb t 0xaa) (rw (p, q, r, u) at h))

abbrev Tagged : ℕ → Run Trunk → Type 0
Tagged t = Known (λ r. one_of tags t ≡ true → 0xa0 + r.lead.frame ≡ t)

framed : (t : ℕ) → Tagged t (trunk_frame t)
unfolding trunk_frame
framed t =
    chosen (Tagged t) (eqb t 0xa1) (λ e. weaken (λ r q h. omega (arith, eqb-true t 0xa1 e, q)) invokes)
    (λ a. chosen (Tagged t) (eqb t 0xa2) (λ e. weaken (λ r q h. omega (arith, eqb-true t 0xa2 e, q)) results)
    (λ b. chosen (Tagged t) (eqb t 0xa3) (λ e. weaken (λ r q h. omega (arith, eqb-true t 0xa3 e, q)) return_errors)
    (λ c. chosen (Tagged t) (eqb t 0xa4) (λ e. weaken (λ r q h. omega (arith, eqb-true t 0xa4 e, q)) all_rejected)
    (λ d. weaken (λ r q h. omega (arith, last_tag t a b c d h, q)) facilities))))

pub component_laws : RunLaws trunk_component
unfolding trunk_component apart
component_laws = frames_laws _ (λ r. 0xa0 + r.lead.frame) outside (named 5) trunk_frame (λ t. (framed t).laws) (λ t r h v. (framed t).is r v h) refl
