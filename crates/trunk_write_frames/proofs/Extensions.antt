-- Extensions: those that are there, how many octets they take, and their octets.
use Rattle.prelude.proofs.Prelude.{ℕ, List, ◌+◌, ◌≡◌, refl, sym, ap, ◌∙◌, [], Bool, true, false, cond, arith, length, length-append, eqb, eqb-true, ne_eqb}
use Rattle.coding.{specs.Codec.Run, specs.Codec.cons, specs.Codec.canonical, specs.Codec.over, specs.Codec.sort, specs.Codec.nothing, specs.Codec.length_octets, specs.Codec.pick_run}
use Rattle.coding.{specs.Normal.normal_form, specs.inner.Written.lead}
use Rattle.coding.proofs.Basic.{and_left, and_right, unpicked}
use Rattle.prelude.proofs.Ways.{by_cases}
use Rattle.trunk_types.specs.declared.Extension.{Extension}
use Rattle.trunk_types.specs.Extensions.{no_extension, same_extension, extension_by, kept_octets, in_one, in_list, extension_at, unextended, some_extension, any_extension, parameter}
use Rattle.trunk_write_frames.specs.inner.Octets.{extension_octets, tagged_by, Counted}
use Rattle.trunk_write_frames.proofs.Dispatch.{Form}

module _ (x : Extension) where
  -- ---- a valid one has as many octets as it says, and they are written under its tag

  abbrev Tagged : Run Extension → ℕ → Type 0
  Tagged f one = Form (f.write x) (Counted x) (tagged_by one x)

  at_form : (one tag k : ℕ) (inside : Run (List ℕ)) → inside.write (kept_octets x) ≡ kept_octets x → (k ≡ 0 → ⊥) → cond (eqb k 2) 0xa2 one ≡ tag
      → (extension_at tag k inside).valid x ≡ true → Tagged (extension_at tag k inside) one
  unfolding extension_at canonical over cons tagged_by
  at_form one tag k inside is z t v =
      let s = and_left (same_extension (extension_by k (kept_octets x)) x) _ v in
      let e = eqb-true k x.kind (and_left (eqb k x.kind) _ s) in
      let n = eqb-true (length (kept_octets x)) x.count (and_left (eqb (length (kept_octets x)) x.count) _ (and_right (eqb k x.kind) _ s)) in
      record { asked = record { octets = λ _. n }; octets = rw (is, ← e, ne_eqb k 0 z, t) }

  one_form : (tag : ℕ) → (extension_at tag 1 in_one).valid x ≡ true → Tagged (extension_at tag 1 in_one) tag
  unfolding in_one normal_form
  one_form tag v = at_form tag tag 1 in_one refl (λ z. omega (arith, z)) refl v

  list_form : (one : ℕ) → (extension_at 0xa2 2 in_list).valid x ≡ true → Tagged (extension_at 0xa2 2 in_list) one
  unfolding in_list normal_form
  list_form one v = at_form one 0xa2 2 in_list refl (λ z. omega (arith, z)) refl v

  none_form : (one : ℕ) → unextended.valid x ≡ true → Tagged unextended one
  unfolding unextended canonical over nothing tagged_by
  none_form one v =
      let z = sym (eqb-true 0 x.kind (and_left (eqb 0 x.kind) _ (and_left (same_extension no_extension x) _ v))) in
      record { asked = record { octets = λ k. absurd (k z) }; octets = rw z }

  pub any_form : any_extension.valid x ≡ true → Tagged any_extension 0xa1
  unfolding any_extension sort
  any_form v =
      by_cases (eqb x.kind 1) (λ q. rw q (one_form 0xa1 (rw q at v))) (λ q.
      by_cases (eqb x.kind 2) (λ r. rw (q, r) (list_form 0xa1 (rw (q, r) at v))) (λ r. rw (q, r) (none_form 0xa1 (rw (q, r) at v))))

  pub some_form : some_extension.valid x ≡ true → Tagged some_extension 0xa1
  unfolding some_extension sort
  some_form v = by_cases (eqb x.kind 1) (λ q. rw q (one_form 0xa1 (rw q at v))) (λ q. rw q (list_form 0xa1 (rw q at v)))

  -- after an error: a parameter may follow, or none
  pub failing_form : (b : Bool) → (pick_run b parameter unextended).valid x ≡ true → Tagged (pick_run b parameter unextended) 0x30
  unfolding parameter sort
  failing_form true v = by_cases (eqb x.kind 1) (λ q. rw q (one_form 0x30 (rw q at v))) (λ q. rw q (none_form 0x30 (rw q at v)))
  failing_form false v = none_form 0x30 v

  -- ---- by the kind

  pub tagged_none : x.kind ≡ 0 → (one : ℕ) → tagged_by one x ≡ []
  unfolding tagged_by
  tagged_none e one = rw e

  pub tagged_list : x.kind ≡ 2 → (one : ℕ) → tagged_by one x ≡ extension_octets 0xa2 x
  unfolding tagged_by
  tagged_list e one = rw e

  pub tagged_one : (x.kind ≡ 0 → ⊥) → (x.kind ≡ 2 → ⊥) → (one : ℕ) → tagged_by one x ≡ extension_octets one x
  unfolding tagged_by
  tagged_one a b one = rw (ne_eqb x.kind 0 a, ne_eqb x.kind 2 b)

  -- ---- how many octets

  kept_size : (tag : ℕ) → length (extension_octets tag x) ≡ length (lead tag (length (kept_octets x))) + length (kept_octets x)
  unfolding lead
  kept_size tag = omega (arith, length-append (length_octets (length (kept_octets x))) (kept_octets x))

  module _ (d : Counted x) (k : x.kind ≡ 0 → ⊥) where
    pub tagged_size : {n r : ℕ} → n ≡ x.count → ((tag : ℕ) → r ≡ length (lead tag n) + n) → (one : ℕ) → r ≡ length (tagged_by one x)
    unfolding tagged_by
    tagged_size e s one =
        let tag = cond (eqb x.kind 2) 0xa2 one in
        s tag ∙ ap (λ (j : ℕ). length (lead tag j) + j) (e ∙ sym (d.octets k)) ∙ sym (kept_size tag) ∙ sym (ap length (unpicked _ _ (ne_eqb x.kind 0 k)))
