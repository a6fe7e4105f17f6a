-- What a component carries is valid where each of its parts fits the form.
use Rattle.prelude.proofs.Prelude.{ℕ, ◌≡◌, refl, sym, ap, ap₂, subst, ◌∙◌, List, [], ◌∷◌, Bool, true, false, ◌&&◌, ◌||◌, true≢false, cond, length, leb, eqb, leb_zero, eqb-true}
use Rattle.coding.{specs.Codec.Run, specs.Codec.canonical, specs.Codec.over, specs.Codec.prim, specs.Codec.cons, specs.Codec.pair, specs.Codec.sort, specs.Codec.nothing}
use Rattle.coding.{specs.Codec.any_more, proofs.Tests.ands, proofs.Tests.and-true, proofs.Tests.eqb_self}
use Rattle.coding.specs.{Codec.all, Codec.pad, Codec.one_of, Codec.pick_run, Leaves.number, Leaves.null_leaf}
use Rattle.prelude.proofs.Ways.{by_cases}
use Rattle.types.{specs.declared.Association.Association, specs.declared.Charge.Charge, specs.Charges.no_association, specs.Charges.same_association, specs.Charges.party_number}
use Rattle.types.{specs.Charges.association, specs.Charges.unassociated, specs.Arguments.no_charge, specs.Arguments.same_charge, specs.Arguments.associated}
use Rattle.types.{proofs.PartLaws.association_equal, proofs.ArgumentLaws.charge_equal}
use Rattle.trunk_types.specs.{declared.Modes.Modes, declared.Extension.Extension, declared.Body.Body, Extensions.no_extension, Extensions.same_extension, Extensions.extension_at}
use Rattle.trunk_types.specs.{Extensions.unextended, Extensions.some_extension, Extensions.any_extension, Extensions.parameter, Bodies.no_modes, Bodies.same_modes, Bodies.body_by}
use Rattle.trunk_types.specs.{Bodies.same_body, Bodies.with_extension, Bodies.extended}
use Rattle.trunk_types.specs.Bodies.{asking_for, detailed, extending, modes, detail, dummy, charged, final_charge, interim, tariff, other_of, complete, diverted, address, network}
use Rattle.trunk_types.specs.{Bodies.{argument_of, result_of}, Components.{trunk_operations, answerable}}
use Rattle.trunk_types.proofs.ExtensionLaws.{extension_equal}
use Rattle.write_heads.specs.inner.Fronts.{problem_fine}
use Rattle.write_tests.proofs.Truth.{kinds, other_kind, other_kind'}
use Rattle.trunk_write_tests.specs.inner.Fine.{detail_fine, entity_fine, some_modes, modes_of, modes_fine, number_if, user_fine, other_fine, kind_fine, charge_fits, most_extension}
use Rattle.trunk_write_tests.specs.inner.Fine.{extension_fine, inner_fine, body_fine}
use Rattle.trunk_write_tests.proofs.Charges.{list_self, past_kind, final_fits, interim_fits, tariff_fits, other_fits, none_fits, kindless}

-- ---- extensions: by how great a kind may be

module _ (x : Extension) where
  abbrev of : ℕ → Extension
  of k = record { kind = k; count = x.count; octets = x.octets }

  no_extension_lem : same_extension no_extension x ≡ leb x.kind 0 && any_extension.valid x
  unfolding any_extension sort unextended canonical over nothing
  no_extension_lem =
      kinds (λ (k : ℕ). same_extension no_extension (of k) ≡ leb k 0 && any_extension.valid (of k)) (sym (and-true _)) refl refl refl refl refl
      (λ k h. simp (other_kind', past_kind)) x.kind

  one_extension_lem : parameter.valid x ≡ leb x.kind 1 && any_extension.valid x
  unfolding parameter any_extension sort extension_at unextended canonical over nothing cons
  one_extension_lem =
      kinds (λ (k : ℕ). parameter.valid (of k) ≡ leb k 1 && any_extension.valid (of k)) refl refl refl refl refl refl
      (λ k h. simp (other_kind, other_kind', past_kind)) x.kind

  any_extension_lem : any_extension.valid x ≡ leb x.kind 2 && any_extension.valid x
  unfolding any_extension sort unextended canonical over nothing
  any_extension_lem =
      kinds (λ (k : ℕ). any_extension.valid (of k) ≡ leb k 2 && any_extension.valid (of k)) refl refl refl refl refl refl
      (λ k h. simp (other_kind, other_kind', past_kind)) x.kind

  some_extension_lem : cond (eqb x.kind 0) (same_extension no_extension x) (some_extension.valid x) ≡ leb x.kind 2 && any_extension.valid x
  unfolding some_extension any_extension sort extension_at unextended canonical over nothing cons
  some_extension_lem =
      kinds (λ (k : ℕ). cond (eqb k 0) (same_extension no_extension (of k)) (some_extension.valid (of k)) ≡ leb k 2 && any_extension.valid (of k))
      (sym (and-true _)) refl refl refl refl refl (λ k h. simp (other_kind, other_kind', past_kind)) x.kind

-- ---- a test of equality of bodies, and a test of what it holds

parts_order : (a m x c v : Bool) → ((a && m) && (x && c)) && v ≡ ((a && m) && (c && v)) && x
parts_order a m x c v = simp ands

abbrev parts_of : ℕ → ℕ → Modes → Association → Charge → Body → Bool → Bool
parts_of d e m u c b v = ((eqb d b.detail && eqb e b.entity) && (same_modes m b.modes && same_association u b.user)) && (same_charge c b.charge && v)

parts_of_lem : (d e : ℕ) (m : Modes) (u : Association) (x : Extension) (c : Charge) (b : Body) (v : Bool)
    → same_body (body_by d e m u x c) b && v ≡ parts_of d e m u c b v && same_extension x b.extension
parts_of_lem d e m u x c b v =
    parts_order (eqb d b.detail && eqb e b.entity) (same_modes m b.modes && same_association u b.user) (same_extension x b.extension) (same_charge c b.charge) v

-- without an extension
inner_of : (d e : ℕ) (m : Modes) (u : Association) (c : Charge) (b : Body) (v : Bool)
    → same_body (body_by d e m u no_extension c) (with_extension no_extension b) && v ≡ parts_of d e m u c b v
inner_of d e m u c b v =
    parts_of_lem d e m u no_extension c (with_extension no_extension b) v ∙ ap (λ (t : Bool). parts_of d e m u c b v && t) (extension_equal.self no_extension) ∙ and-true _

-- ---- what comes before the extension, by the form: the orders in which the tests are met and made

modes_order : (d e m u c v : Bool) → ((d && e) && (m && u)) && (c && v) ≡ (d && e) && ((m && v) && (u && c))
modes_order d e m u c v = simp ands

detail_order : (e m u c v : Bool) → (e && (m && u)) && (c && v) ≡ (v && e) && (m && (u && c))
detail_order e m u c v = simp ands

charge_order : (d e m u v : Bool) → ((d && e) && (m && u)) && v ≡ (d && e) && (m && (u && v))
charge_order d e m u v = simp ands

users_order : (d e m c p a : Bool) → ((d && e) && (m && true)) && (c && (p && a)) ≡ (d && e) && (m && (p && (c && a)))
users_order d e m c p a = simp ands

diverted_order : (e m c p a v : Bool) → (e && (m && true)) && (c && (p && (a && v))) ≡ (v && e) && (m && (p && (c && a)))
diverted_order e m c p a v = simp ands

network_order : (m c d p e a : Bool) → (m && true) && (c && (d && (p && (e && a)))) ≡ (d && e) && (m && (p && (c && a)))
network_order m c d p e a = simp ands

bare_order : (d e m u c v : Bool) → ((d && e) && (m && u)) && (c && v) ≡ ((d && e) && (m && (u && c))) && v
bare_order d e m u c v = simp ands

up_to_six : (xs : List ℕ) → all (prim 0x0a (number 0 6)).valid xs ≡ all (λ n. leb n 6) xs
unfolding prim number
up_to_six [] = refl
up_to_six (x ∷ xs) = ap₂ (λ (s t : Bool). (s && leb x 6) && t) (leb_zero x) (up_to_six xs)

address_is : (tag : ℕ) (a : Association) → (address tag).valid a ≡ number_if a
unfolding address sort cons unassociated canonical over nothing
address_is tag a = by_cases (eqb a.kind 0) (λ e. rw e (and-true _)) (λ e. rw e)

module _ (p : ℕ) (b : Body) where
  abbrev bare : Body
  bare = with_extension no_extension b

  -- tests that a body has no such part
  abbrev no_detail : Bool
  no_detail = eqb 0 b.detail

  abbrev no_entity : Bool
  no_entity = eqb 0 b.entity

  abbrev modeless : Bool
  modeless = same_modes no_modes b.modes

  abbrev nameless : Bool
  nameless = same_association no_association b.user

  modes_inner : modes.valid bare ≡ inner_fine 59 p b
  unfolding modes cons canonical over any_more inner_fine detail_fine entity_fine modes_fine some_modes user_fine other_fine
  modes_inner =
      let xs = modes_of b.modes in
      let v = leb (length xs) 7 && all (λ n. leb n 6) xs in
      ap (λ (t : Bool). same_body (asking_for xs) bare && (leb (length xs) 7 && t)) (up_to_six xs)
      ∙ inner_of 0 0 (record { count = length xs; places = pad 7 0 xs }) no_association no_charge b v
      ∙ rw (← none_fits b.charge 59 (λ k. kindless 59 k refl refl refl) refl)
      (modes_order no_detail no_entity (same_modes (record { count = length xs; places = pad 7 0 xs }) b.modes) nameless (same_charge no_charge b.charge) v)

  -- any form whose detail alone is its own
  detail_inner : (form most : ℕ) → ((k : ℕ) → kind_fine form k ≡ eqb k 0) → other_fine form (other_of b) ≡ same_association no_association (other_of b)
      → (detail most).valid bare ≡ (leb b.detail most && no_entity) && (modeless && (nameless && charge_fits form b.charge))
  unfolding detail canonical over prim number
  detail_inner form most h o =
      simp leb_zero
      (inner_of b.detail 0 no_modes no_association no_charge b (leb b.detail most)
      ∙ rw (eqb_self b.detail, ← none_fits b.charge form h o) (detail_order no_entity modeless nameless (same_charge no_charge b.charge) (leb b.detail most)))

  charge_inner : (f : Run Charge) → (charged f).valid bare ≡ (no_detail && no_entity) && (modeless && (nameless && f.valid b.charge))
  unfolding charged canonical over
  charge_inner f =
      inner_of 0 0 no_modes no_association b.charge b (f.valid b.charge)
      ∙ rw (charge_equal.self b.charge) (charge_order no_detail no_entity modeless nameless (f.valid b.charge))

  -- a user, and another number beside no charge
  abbrev bare_other : Bool
  bare_other = same_charge (associated (other_of b) no_charge) b.charge

  joined : (form : ℕ) (f : Run Body) → most_extension form ≡ 2 → f.valid bare ≡ inner_fine form p b → (extended f).valid b ≡ body_fine form p b
  unfolding extended cons canonical over pair body_fine extension_fine
  joined form f most e = simp (eqb_self, list_self) (rw most (ap₂ (λ (s t : Bool). s && t) e (any_extension_lem b.extension)))

  complete_body : complete.valid b ≡ body_fine 64 p b
  unfolding complete canonical over pair inner_fine detail_fine entity_fine modes_fine user_fine other_fine most_extension
  complete_body =
      let v = (party_number true).valid b.user in
      let w = (association true).valid (other_of b) in
      joined 64 _ refl
      (inner_of 0 0 no_modes b.user (associated (other_of b) no_charge) b (v && w)
      ∙ rw (association_equal.self b.user, ← other_fits b.charge 64 (λ k. kindless 64 k refl refl refl)) (users_order no_detail no_entity modeless bare_other v w))

  diverted_body : diverted.valid b ≡ body_fine 65 p b
  unfolding diverted canonical over pair prim number inner_fine detail_fine entity_fine modes_fine user_fine other_fine most_extension
  diverted_body =
      let v = (party_number true).valid b.user in
      let w = (association true).valid (other_of b) in
      joined 65 _ refl
      (simp leb_zero
      (inner_of b.detail 0 no_modes b.user (associated (other_of b) no_charge) b (v && (w && leb b.detail 3))
      ∙ rw (eqb_self b.detail, association_equal.self b.user, ← other_fits b.charge 65 (λ k. kindless 65 k refl refl refl))
      (diverted_order no_entity modeless bare_other v w (leb b.detail 3))))

  modes_body : (extended modes).valid b ≡ body_fine 59 p b
  unfolding most_extension
  modes_body = joined 59 modes refl modes_inner

  asked_body : (extended (detail 6)).valid b ≡ body_fine 1 p b
  unfolding inner_fine detail_fine entity_fine modes_fine user_fine other_fine most_extension
  asked_body = joined 1 (detail 6) refl (detail_inner 1 6 (λ k. kindless 1 k refl refl refl) refl)

  completed_body : (extended (detail 2)).valid b ≡ body_fine 2 p b
  unfolding inner_fine detail_fine entity_fine modes_fine user_fine other_fine most_extension
  completed_body = joined 2 (detail 2) refl (detail_inner 2 2 (λ k. kindless 2 k refl refl refl) refl)

  final_body : final_charge.valid b ≡ body_fine 61 p b
  unfolding final_charge inner_fine detail_fine entity_fine modes_fine user_fine most_extension
  final_body = joined 61 _ refl (charge_inner _ ∙ ap (λ (t : Bool). (no_detail && no_entity) && (modeless && (nameless && t))) (final_fits b.charge))

  interim_body : interim.valid b ≡ body_fine 62 p b
  unfolding interim inner_fine detail_fine entity_fine modes_fine user_fine most_extension
  interim_body = joined 62 _ refl (charge_inner _ ∙ ap (λ (t : Bool). (no_detail && no_entity) && (modeless && (nameless && t))) (interim_fits b.charge))

  tariff_body : tariff.valid b ≡ body_fine 63 p b
  unfolding tariff inner_fine detail_fine entity_fine modes_fine user_fine most_extension
  tariff_body = joined 63 _ refl (charge_inner _ ∙ ap (λ (t : Bool). (no_detail && no_entity) && (modeless && (nameless && t))) (tariff_fits b.charge))

  -- ---- bodies that have an extension and nothing else, or not even that

  abbrev nothing_beside : ℕ → Bool
  nothing_beside form = (no_detail && no_entity) && (modeless && (nameless && charge_fits form b.charge))

  module _ (form : ℕ) (bareKinds : (k : ℕ) → kind_fine form k ≡ eqb k 0) (o : other_fine form (other_of b) ≡ same_association no_association (other_of b)) where
    pub alone_by : (x : Extension) (v : Bool) → same_body (extending x) b && v ≡ (nothing_beside form && v) && same_extension x b.extension
    alone_by x v =
        parts_of_lem 0 0 no_modes no_association x no_charge b v
        ∙ ap (λ (t : Bool). t && same_extension x b.extension) (bare_order no_detail no_entity modeless nameless (same_charge no_charge b.charge) v
        ∙ ap (λ (t : Bool). ((no_detail && no_entity) && (modeless && (nameless && t))) && v) (none_fits b.charge form bareKinds o))

    pub own_extension : (v : Bool) → same_body (extending b.extension) b && v ≡ nothing_beside form && v
    own_extension v = alone_by b.extension v ∙ ap (λ (t : Bool). (nothing_beside form && v) && t) (extension_equal.self b.extension) ∙ and-true _

  dummy_body : dummy.valid b ≡ body_fine 60 p b
  unfolding dummy sort canonical over prim null_leaf body_fine inner_fine detail_fine entity_fine modes_fine user_fine other_fine extension_fine most_extension
  dummy_body =
      let x = b.extension in
      by_cases (eqb x.kind 0)
      (λ e. rw e (alone_by 60 (λ k. kindless 60 k refl refl refl) refl no_extension true ∙ ap (λ (t : Bool). t && same_extension no_extension x) (and-true (nothing_beside 60))
      ∙ ap (λ (t : Bool). nothing_beside 60 && t) (rw e at (some_extension_lem x))))
      (λ e. rw e (own_extension 60 (λ k. kindless 60 k refl refl refl) refl (some_extension.valid x) ∙ ap (λ (t : Bool). nothing_beside 60 && t) (rw e at (some_extension_lem x))))

  pub failed_body : same_body (extending b.extension) b && unextended.valid b.extension ≡ body_fine 3 p b
  unfolding body_fine inner_fine detail_fine entity_fine modes_fine user_fine other_fine extension_fine most_extension unextended canonical over nothing
  failed_body =
      own_extension 3 (λ k. kindless 3 k refl refl refl) refl (same_extension no_extension b.extension && true)
      ∙ ap (λ (t : Bool). nothing_beside 3 && t) (and-true _ ∙ no_extension_lem b.extension)

  pub unspecified_body : same_body (extending b.extension) b && parameter.valid b.extension ≡ body_fine 8 p b
  unfolding body_fine inner_fine detail_fine entity_fine modes_fine user_fine other_fine extension_fine most_extension
  unspecified_body =
      own_extension 8 (λ k. kindless 8 k refl refl refl) refl (parameter.valid b.extension) ∙ ap (λ (t : Bool). nothing_beside 8 && t) (one_extension_lem b.extension)

  pub rejected_body : same_body (detailed b.detail) b && problem_fine p b.detail ≡ body_fine 4 p b
  unfolding body_fine inner_fine detail_fine entity_fine modes_fine user_fine other_fine extension_fine most_extension
  rejected_body =
      let v = problem_fine p b.detail in
      parts_of_lem b.detail 0 no_modes no_association no_extension no_charge b v
      ∙ rw (eqb_self b.detail, no_extension_lem b.extension, ← none_fits b.charge 4 (λ k. kindless 4 k refl refl refl) refl)
      (ap (λ (t : Bool). t && (leb b.extension.kind 0 && any_extension.valid b.extension)) (detail_order no_entity modeless nameless (same_charge no_charge b.charge) v))

  pub network_body : network.valid b ≡ body_fine 10 p b
  unfolding network canonical over pair prim number body_fine inner_fine detail_fine entity_fine modes_fine user_fine other_fine extension_fine most_extension
  network_body =
      let v = number_if b.user in
      let w = number_if (other_of b) in
      let d = leb b.detail 1 in
      let e = leb b.entity 1 in
      simp (leb_zero, address_is)
      (parts_of_lem b.detail b.entity no_modes b.user no_extension (associated (other_of b) no_charge) b (d && (v && (e && w)))
      ∙ rw (
        eqb_self b.detail,
        eqb_self b.entity,
        association_equal.self b.user,
        no_extension_lem b.extension,
        ← other_fits b.charge 10 (λ k. kindless 10 k refl refl refl),
      )
      (ap (λ (t : Bool). t && (leb b.extension.kind 0 && any_extension.valid b.extension)) (network_order modeless bare_other d v e w)))

-- ---- by the operation, and by the error

-- a number of a list is its first, or of the rest
first_or_lem : (P : ℕ → Type 0) (x o : ℕ) (rest : Bool) → P x → (rest ≡ true → P o) → eqb o x || rest ≡ true → P o
first_or_lem P x o rest this that h =
    by_cases (eqb o x) (λ q. subst P (sym (eqb-true o x q)) this) (λ q. that (sym (ap (λ (t : Bool). t || rest) q) ∙ h))

module _ (p : ℕ) (b : Body) where
  pub argument_body : (o : ℕ) → one_of trunk_operations o ≡ true → (argument_of o).valid b ≡ body_fine o p b
  unfolding argument_of one_of
  argument_body o =
      let P : ℕ → Type 0 = λ n. (argument_of n).valid b ≡ body_fine n p b in
      first_or_lem P 59 o _ (modes_body p b) (first_or_lem P 60 o _ (dummy_body p b) (first_or_lem P 61 o _ (final_body p b) (first_or_lem P 62 o _ (interim_body p b)
      (first_or_lem P 63 o _ (tariff_body p b) (first_or_lem P 64 o _ (complete_body p b) (first_or_lem P 65 o false (diverted_body p b) (λ z. absurd (true≢false (sym z)))))))))

  pub result_body : (o : ℕ) → one_of answerable o ≡ true → (result_of o).valid b ≡ body_fine (cond (eqb o 59) 1 2) p b
  unfolding result_of one_of
  result_body o =
      let P : ℕ → Type 0 = λ n. (result_of n).valid b ≡ body_fine (cond (eqb n 59) 1 2) p b in
      first_or_lem P 59 o _ (asked_body p b) (first_or_lem P 64 o false (completed_body p b) (λ z. absurd (true≢false (sym z))))

  pub error_body : (e : ℕ) → same_body (extending b.extension) b && (pick_run (eqb e 1008) parameter unextended).valid b.extension ≡ body_fine (cond (eqb e 1008) 8 3) p b
  error_body e = by_cases (eqb e 1008) (λ q. rw q (unspecified_body p b)) (λ q. rw q (failed_body p b))
