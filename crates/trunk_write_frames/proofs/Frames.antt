-- What a frame holds, by its kind: what a valid component has, and its octets.
use Rattle.prelude.proofs.Prelude.{ℕ, ◌+◌, ◌≤◌, ◌<◌, ◌≡◌, refl, sym, ap, ap₂, ◌∙◌, List, ◌++◌, true, false, cond, ◌⊎◌, inl, inr, arith, length, get_or}
use Rattle.prelude.proofs.{Prelude.{length-append, leb, eqb, eqb-true, ne_eqb, leb-true}, Ways.by_cases}
use Rattle.coding.specs.Codec.{Run, one_of, prim, cons, pair, alt, sort, canonical, over, leads, barring, marked, frames, pick_run}
use Rattle.coding.{specs.Leaves.{number, identifier, listed}, specs.inner.Written.{lead, full_number}, proofs.Basic.{and_left, and_right, or-false}}
use Rattle.coding.proofs.{Holds.holds, Small.{null_write, small_length, id_length}, Writing.number_write}
use Rattle.types.specs.{declared.Record.Record, Frames.value, Frames.caller, Frames.problem, Frames.problems, Frames.reject, Frames.front_by, Frames.same_front, Frames.same_record}
use Rattle.types.specs.{Frames.rejects, Frames.caller_of, Stored.two, Stored.association_in, Stored.figure_in}
use Rattle.read_heads.proofs.Codes.{has_below}
use Rattle.write_tests.proofs.Truth.{truth}
use Rattle.trunk_types.specs.{declared.Body.Body, declared.Parts.Parts, Extensions.parameter, Extensions.unextended, Stored.extension_in, Stored.body_in, Stored.trunk_in}
use Rattle.trunk_types.specs.Bodies.{argument_of, result_of, final_charge, interim, tariff, complete, diverted, naming, same_body, address, network, extending, charge_for}
use Rattle.trunk_types.specs.Components.{lead_by, trunk_by, same_trunk, trunk_operations, answerable, carrying_body, trunk_invoke, trunk_result, trunk_errors, failing, trunk_error}
use Rattle.trunk_types.specs.Components.{of_reject, reject_of, rejected, facility, tags, trunk_frame, trunk_component}
use Rattle.trunk_types.specs.inner.Forms.{users, diverting, inner_of}
use Rattle.trunk_write_frames.specs.{inner.Octets.body, inner.Octets.whole, inner.Octets.body_of, inner.Octets.result_form, inner.Octets.id_octets}
use Rattle.trunk_write_frames.specs.inner.Octets.{Counted, detail_in, error_octets, reject_octets, NetworkFine, network_octets, contents_of}
use Rattle.trunk_write_frames.proofs.{Extensions.failing_form, Dispatch.Form, Dispatch.form_then}

-- an operation or error value
value_write : (unknown : ℕ) (known : List ℕ) (n : ℕ) → (value unknown known).write n ≡ full_number 0x02 n
unfolding value barring listed number prim
value_write unknown known n = number_write 0x02 0 0 n

-- ---- by the operation

abbrev Alike : Run Body → Run Body → Body → Type 0
Alike f g b = (f.write b ≡ g.write b) × (f.valid b ≡ g.valid b)

last_operation : (o : ℕ) → one_of trunk_operations o ≡ true → eqb o 59 ≡ false → eqb o 60 ≡ false → eqb o 61 ≡ false → eqb o 62 ≡ false → eqb o 63 ≡ false → eqb o 64 ≡ false → o ≡ 65
unfolding one_of
last_operation o h a b c d e f = eqb-true o 65 (or-false (eqb o 65) (rw (a, b, c, d, e, f) at h))

argument_alike : (o : ℕ) (b : Body) → one_of trunk_operations o ≡ true → Alike (argument_of o) (body_of o) b
unfolding argument_of body_of inner_of final_charge interim tariff complete diverted charge_for users diverting
argument_alike o b h =
    by_cases (eqb o 59) (λ q. rw (eqb-true o 59 q) (refl, refl)) (λ q1.
    by_cases (eqb o 60) (λ q. rw (eqb-true o 60 q) (refl, refl)) (λ q2.
    by_cases (eqb o 61) (λ q. rw (eqb-true o 61 q) (refl, refl)) (λ q3.
    by_cases (eqb o 62) (λ q. rw (eqb-true o 62 q) (refl, refl)) (λ q4.
    by_cases (eqb o 63) (λ q. rw (eqb-true o 63 q) (refl, refl)) (λ q5.
    by_cases (eqb o 64) (λ q. rw (eqb-true o 64 q) (refl, refl)) (λ q6. rw (last_operation o h q1 q2 q3 q4 q5 q6) (refl, refl)))))))

result_alike : (o : ℕ) (b : Body) → Alike (result_of o) (body_of (result_form o)) b
unfolding result_of body_of inner_of
result_alike o b = by_cases (eqb o 59) (λ q. rw q (refl, refl)) (λ q. rw q (refl, refl))

-- ---- a reject's two parts

call : (u i : ℕ) → caller.write (cond (eqb u 1) (inl tt) (inr i)) ≡ cond (eqb u 1) (lead 0x05 0) ((prim 0x02 identifier).write i)
unfolding caller alt
call u i = by_cases (eqb u 1) (λ q. rw (q, null_write 0x05 tt)) (λ q. rw q)

module _ (r : Record) where
  tag_of : (c : Unit {0} ⊎ ℕ) (tag d : ℕ) → same_record (rejects c tag d) r ≡ true → tag ≡ r.front.problem
  tag_of (inl u) tag d s = let g = simp holds at (and_left (same_front (front_by 4 1 0 0 0 tag d) r.front) _ s) in omega (arith, eqb-true)
  tag_of (inr i) tag d s = let g = simp holds at (and_left (same_front (front_by 4 0 i 0 0 tag d) r.front) _ s) in omega (arith, eqb-true)

  module _ (c : Unit {0} ⊎ ℕ) where
    abbrev Problem : Run Record → Type 0
    Problem f = Form (f.write r) (r.front.detail < 128) (full_number r.front.problem r.front.detail)

    problem_at : (tag most : ℕ) → most < 128 → (problem tag most c).valid r ≡ true → Problem (problem tag most c)
    unfolding problem canonical over prim number
    problem_at tag most h v =
        let d = r.front.detail in
        let s = same_record (rejects c tag d) r in
        record {
          asked = omega (arith, h, leb-true d most (and_right (leb 0 d) _ (and_right s _ v)));
          octets = number_write tag 0 most d ∙ ap (λ (t : ℕ). full_number t d) (tag_of c tag d (and_left s _ v));
        }

    problem_form : (problems c).valid r ≡ true → Problem (problems c)
    unfolding problems sort
    problem_form v =
        by_cases (eqb r.front.problem 0x80) (λ q. rw q (problem_at 0x80 2 (omega arith) (rw q at v))) (λ q1.
        by_cases (eqb r.front.problem 0x81) (λ q. rw (q1, q) (problem_at 0x81 7 (omega arith) (rw (q1, q) at v))) (λ q2.
        by_cases (eqb r.front.problem 0x82) (λ q. rw (q1, q2, q) (problem_at 0x82 2 (omega arith) (rw (q1, q2, q) at v)))
        (λ q3. rw (q1, q2, q3) (problem_at 0x83 4 (omega arith) (rw (q1, q2, q3) at v)))))

module _ (five : Parts) where
  abbrev operation : ℕ
  operation = get_or five.front.now 6 0

  -- ---- A1

  module _ (v : trunk_invoke.valid (whole five) ≡ true) where
    invoke_parts : (one_of trunk_operations operation ≡ true) × ((argument_of operation).valid (body five) ≡ true)
    unfolding trunk_invoke leads value barring prim listed carrying_body canonical over marked trunk_in
    invoke_parts =
        let p = and_right (identifier.valid (two five.front.now 2)) _ v in
        let q = and_right (one_of trunk_operations operation) _ p in
        (and_left (one_of trunk_operations operation) _ p, and_right (same_trunk (trunk_by (lead_by 1 0 (two five.front.now 2) 0 operation 0) (body five)) (whole five)) _ q)

    pub invoke_operation : operation < 128
    invoke_operation = has_below 128 trunk_operations operation refl invoke_parts.0

    pub invoke_body : (body_of operation).valid (body five) ≡ true
    invoke_body = sym (argument_alike operation (body five) invoke_parts.0).1 ∙ invoke_parts.1

    invoke_octets : trunk_invoke.write (whole five) ≡ id_octets five.front.now ++ (full_number 0x02 operation ++ (body_of operation).write (body five))
    unfolding trunk_invoke leads carrying_body canonical over marked trunk_in
    invoke_octets = rw (value_write 7 trunk_operations operation, (argument_alike operation (body five) invoke_parts.0).0)

    -- as the code has its parts
    module _ {i : ℕ} (is : i ≡ two five.front.now 2) where
      pub invoke_split : trunk_invoke.write (whole five) ≡ (prim 0x02 identifier).write i ++ (full_number 0x02 operation ++ (body_of operation).write (body five))
      invoke_split = invoke_octets ∙ ap (λ (k : ℕ). (prim 0x02 identifier).write k ++ (full_number 0x02 operation ++ (body_of operation).write (body five))) (sym is)

      pub invoke_length : {w n : ℕ} → w ≡ length (identifier.write i) → n ≡ length ((body_of operation).write (body five)) → 5 + w + n ≡ length (trunk_invoke.write (whole five))
      invoke_length ew en = omega (arith, ew, en, simp length-append at (ap length invoke_split), id_length 0x02 i, small_length 0x02 operation invoke_operation)

    pub invoke_within : length ((body_of operation).write (body five)) ≤ length (trunk_invoke.write (whole five))
    invoke_within = omega (arith, invoke_length refl refl refl)

  -- ---- A2

  module _ (v : trunk_result.valid (whole five) ≡ true) where
    result_parts : (one_of answerable operation ≡ true) × ((result_of operation).valid (body five) ≡ true)
    unfolding trunk_result leads cons value barring prim listed carrying_body canonical over marked trunk_in
    result_parts =
        let p = and_right (identifier.valid (two five.front.now 2)) _ v in
        let q = and_right (one_of answerable operation) _ p in
        (and_left (one_of answerable operation) _ p, and_right (same_trunk (trunk_by (lead_by 2 0 (two five.front.now 2) 0 operation 0) (body five)) (whole five)) _ q)

    pub result_operation : operation < 128
    result_operation = has_below 128 answerable operation refl result_parts.0

    module _ {form : ℕ} (f : form ≡ result_form operation) where
      pub result_body : (body_of form).valid (body five) ≡ true
      result_body = rw f (sym (result_alike operation (body five)).1 ∙ result_parts.1)

      module _ {n : ℕ} (e : n ≡ length ((body_of form).write (body five))) where
        result_contents : 3 + n ≡ length (full_number 0x02 operation ++ (body_of form).write (body five))
        result_contents = omega (arith, e, length-append (full_number 0x02 operation) ((body_of form).write (body five)), small_length 0x02 operation result_operation)

        result_octets : trunk_result.write (whole five) ≡ id_octets five.front.now ++ (lead 0x30 (3 + n) ++ (full_number 0x02 operation ++ (body_of form).write (body five)))
        unfolding trunk_result leads cons lead value barring carrying_body canonical over marked trunk_in
        result_octets =
            rw (value_write 7 answerable operation, (result_alike operation (body five)).0, sym f)
            (ap (λ (k : ℕ). id_octets five.front.now ++ (lead 0x30 k ++ (full_number 0x02 operation ++ (body_of form).write (body five)))) (sym result_contents))

        module _ {i : ℕ} (is : i ≡ two five.front.now 2) where
          pub result_split : trunk_result.write (whole five) ≡ (prim 0x02 identifier).write i ++ (lead 0x30 (3 + n) ++ (full_number 0x02 operation ++ (body_of form).write (body five)))
          result_split =
              result_octets ∙ ap (λ (k : ℕ). (prim 0x02 identifier).write k ++ (lead 0x30 (3 + n) ++ (full_number 0x02 operation ++ (body_of form).write (body five)))) (sym is)

          pub result_length : {w r : ℕ} → w ≡ length (identifier.write i) → r ≡ length (lead 0x30 (3 + n)) + (3 + n) → 2 + w + r ≡ length (trunk_result.write (whole five))
          result_length ew er =
              omega (arith, ew, er, simp length-append at (ap length result_split), id_length 0x02 i, simp length-append at result_contents)

        pub result_within : 3 + n ≤ length (trunk_result.write (whole five))
        result_within = omega (arith, result_length refl refl refl)

  -- ---- A3

  abbrev code : ℕ
  code = two five.front.now 4

  module _ (v : trunk_error.valid (whole five) ≡ true) where
    error_parts : (pick_run (eqb code 1008) parameter unextended).valid (extension_in five.extension.now) ≡ true
    unfolding trunk_error leads value barring prim listed failing canonical over trunk_in body_in
    error_parts =
        let p = and_right (one_of trunk_errors code) _ (and_right (identifier.valid (two five.front.now 2)) _ v) in
        and_right (same_trunk (trunk_by (lead_by 3 0 (two five.front.now 2) code 0 0) (extending (extension_in five.extension.now))) (whole five)) _ p

    error_form : Form (trunk_error.write (whole five)) (Counted (extension_in five.extension.now)) (error_octets five.front.now five.extension.now)
    unfolding trunk_error leads failing canonical over trunk_in body_in error_octets
    error_form =
        let f = failing_form (extension_in five.extension.now) (eqb code 1008) error_parts in
        record { asked = f.asked; octets = rw (value_write 8 trunk_errors code, f.octets) }

  -- ---- A4

  module _ (v : rejected.valid (whole five) ≡ true) where
    abbrev plain : Record
    plain = reject_of (whole five)

    problem_fine_lem : (problems (caller_of plain)).valid plain ≡ true
    unfolding rejected canonical over reject leads trunk_in
    problem_fine_lem = and_right (caller.valid (caller_of plain)) _ (and_right (same_trunk (of_reject plain) (whole five)) _ v)

    reject_form : Form (rejected.write (whole five)) (detail_in five.front.now < 128) (reject_octets five.front.now)
    unfolding rejected canonical over reject leads trunk_in body_in
    reject_form =
        let f = problem_form plain (caller_of plain) problem_fine_lem in
        record { asked = f.asked; octets = ap₂ (λ (x y : List ℕ). x ++ y) (call (get_or five.front.now 1 0) (two five.front.now 2)) f.octets }

  -- ---- AA

  module _ (v : facility.valid (whole five) ≡ true) where
    network_fine : NetworkFine five.front.now five.figure.now
    unfolding facility network canonical over marked pair prim number address sort cons trunk_in body_in figure_in
    network_fine =
        let n = and_right (same_trunk (trunk_by (lead_by 10 0 0 0 0 0) (body five)) (whole five)) _ v in
        let held = naming (get_or five.front.now 42 0) (get_or five.front.now 43 0) (association_in five.front.now) (association_in five.figure.now) in
        let g = simp truth at (and_right (same_body held (body five)) _ n) in
        record { source = g.0.1; source_address = g.1.0; destination = g.1.1.0.1; destination_address = g.1.1.1 }

    network_form : Form (facility.write (whole five)) (NetworkFine five.front.now five.figure.now) (network_octets five.front.now five.figure.now)
    unfolding facility network canonical over marked pair trunk_in body_in figure_in network_octets
    network_form = record {
      asked = network_fine;
      octets = rw (number_write 0x80 0 1 (get_or five.front.now 42 0), number_write 0x82 0 1 (get_or five.front.now 43 0));
    }

  -- ---- by the frame

  abbrev kind : ℕ
  kind = get_or five.front.now 0 0

  frame_valid : trunk_component.valid (whole five) ≡ true → (one_of tags (0xa0 + kind) ≡ true) × ((trunk_frame (0xa0 + kind)).valid (whole five) ≡ true)
  unfolding trunk_component frames trunk_in
  frame_valid v = (and_left (one_of tags (0xa0 + kind)) _ v, and_right (one_of tags (0xa0 + kind)) _ v)

  module _ (v : trunk_component.valid (whole five) ≡ true) where
    -- what the frame holds is what one of the five has
    abbrev Holds : Type 0 → List ℕ → Type 0
    Holds = Form (contents_of (whole five))

    holding : (k : ℕ) → kind ≡ k → Holds ((trunk_frame (0xa0 + k)).valid (whole five) ≡ true) ((trunk_frame (0xa0 + k)).write (whole five))
    unfolding trunk_in
    holding k e = record {
      asked = ap (λ (n : ℕ). (trunk_frame (0xa0 + n)).valid (whole five)) (sym e) ∙ (frame_valid v).1;
      octets = ap (λ (n : ℕ). (trunk_frame (0xa0 + n)).write (whole five)) e;
    }

    pub holds_1 : kind ≡ 1 → Holds (trunk_invoke.valid (whole five) ≡ true) (trunk_invoke.write (whole five))
    unfolding trunk_frame
    holds_1 e = holding 1 e

    pub holds_2 : kind ≡ 2 → Holds (trunk_result.valid (whole five) ≡ true) (trunk_result.write (whole five))
    unfolding trunk_frame
    holds_2 e = holding 2 e

    pub holds_3 : kind ≡ 3 → Holds (Counted (extension_in five.extension.now)) (error_octets five.front.now five.extension.now)
    unfolding trunk_frame
    holds_3 e = form_then (holding 3 e) error_form

    pub holds_4 : kind ≡ 4 → Holds (detail_in five.front.now < 128) (reject_octets five.front.now)
    unfolding trunk_frame
    holds_4 e = form_then (holding 4 e) reject_form

    -- any other, as the code finds it
    pub holds_10 : (kind ≡ 1 → ⊥) → (kind ≡ 2 → ⊥) → (kind ≡ 3 → ⊥) → (kind ≡ 4 → ⊥)
        → Holds (NetworkFine five.front.now five.figure.now) (network_octets five.front.now five.figure.now)
    unfolding trunk_frame trunk_in
    holds_10 h1 h2 h3 h4 =
        let a = ne_eqb (0xa0 + kind) 0xa1 (λ z. h1 (omega (arith, z))) in
        let b = ne_eqb (0xa0 + kind) 0xa2 (λ z. h2 (omega (arith, z))) in
        let c = ne_eqb (0xa0 + kind) 0xa3 (λ z. h3 (omega (arith, z))) in
        let d = ne_eqb (0xa0 + kind) 0xa4 (λ z. h4 (omega (arith, z))) in
        form_then (record { asked = rw (a, b, c, d) at (frame_valid v).1; octets = rw (a, b, c, d, contents_of) }) network_form

  pub known_frame : trunk_component.valid (whole five) ≡ true → kind < 11
  known_frame v = omega (arith, has_below 171 tags (0xa0 + kind) refl (frame_valid v).0)
