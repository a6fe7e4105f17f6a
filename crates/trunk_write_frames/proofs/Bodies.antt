-- What follows an operation: the 30 around what a form has and its extension; of 60, 05 00 or the extension by itself.
use Rattle.prelude.proofs.Prelude.{ℕ, ◌+◌, ◌≡◌, sym, ap, ◌∙◌, List, ◌++◌, Bool, true, ◌&&◌, arith, length, length-append, eq-eqb, ne_eqb}
use Rattle.coding.{specs.Codec.canonical, specs.Codec.over, specs.Codec.pair, specs.Codec.sort, specs.Codec.cons, specs.inner.Written.lead, proofs.Basic.and_left, proofs.Basic.and_right}
use Rattle.coding.proofs.{Small.null_write, Writing.cons_write}
use Rattle.trunk_types.specs.{declared.Extension.Extension, declared.Parts.Parts, Extensions.{any_extension, some_extension}, Stored.{extension_in, body_in}}
use Rattle.trunk_types.specs.{Bodies.{same_body, with_extension, extended, extending, dummy}, inner.Forms.{inner_in, inner_of}}
use Rattle.trunk_write_frames.specs.inner.Octets.{inner, body, tagged_by, Counted, body_of}
use Rattle.trunk_write_frames.proofs.{Extensions.any_form, Extensions.some_form, Dispatch.Form}

module _ (form : ℕ) (five : Parts) where
  abbrev held : Extension
  held = extension_in five.extension.now

  pub asked_plain : form ≡ 60 → held.kind ≡ 0 → (body_of form).write (body five) ≡ lead 0x05 0
  unfolding body_of dummy sort canonical over body_in
  asked_plain s z = rw (s, eq-eqb held.kind 0 z) (null_write 0x05 tt)

  module _ (v : (body_of form).valid (body five) ≡ true) where
    pub form_asked : form ≡ 60 → (held.kind ≡ 0 → ⊥) → Form ((body_of form).write (body five)) (Counted held) (tagged_by 0xa1 held)
    unfolding body_of dummy sort canonical over body_in
    form_asked s z =
        let w : same_body (extending held) (body five) && some_extension.valid held ≡ true = rw (s, ne_eqb held.kind 0 z) at v in
        let x = some_form held (and_right (same_body (extending held) (body five)) _ w) in
        record { asked = x.asked; octets = rw (s, ne_eqb held.kind 0 z) x.octets }

    -- any other: what the form has, and the extension
    module _ (h : form ≡ 60 → ⊥) where
      abbrev first : List ℕ
      first = (inner_of form).write (inner five)

      pub other_valid : ((inner_of form).valid (inner five) ≡ true) × Form (any_extension.write held) (Counted held) (tagged_by 0xa1 held)
      unfolding body_of extended cons canonical over pair body_in inner_in
      other_valid =
          let i : Bool = (inner_of form).valid (inner five) in
          let x : Bool = any_extension.valid held in
          let p : i && x ≡ true = and_right (same_body (with_extension held (inner five)) (body five)) (i && x) (rw (ne_eqb form 60 h) at v) in
          (and_left i x p, any_form held (and_right i x p))

      module _ {m k : ℕ} (e : m ≡ length first) (q : (tag : ℕ) → k ≡ length (tagged_by tag held)) where
        other_contents : m + k ≡ length (first ++ tagged_by 0xa1 held)
        other_contents = omega (arith, e, q 0xa1, length-append first (tagged_by 0xa1 held))

        pub other_octets : (body_of form).write (body five) ≡ lead 0x30 (m + k) ++ (first ++ tagged_by 0xa1 held)
        unfolding body_of extended canonical over pair body_in inner_in
        other_octets =
            rw (ne_eqb form 60 h)
            (cons_write 0x30 _ (body five)
            ∙ rw other_valid.1.octets (ap (λ (n : ℕ). lead 0x30 n ++ (first ++ tagged_by 0xa1 held)) (sym other_contents)))

        pub other_length : length (lead 0x30 (m + k)) + (m + k) ≡ length ((body_of form).write (body five))
        other_length = omega (arith, ap length other_octets, length-append (lead 0x30 (m + k)) (first ++ tagged_by 0xa1 held), other_contents)
