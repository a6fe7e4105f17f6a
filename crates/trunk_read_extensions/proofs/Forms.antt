-- Octets that are kept: they are their own shortest form where they are read to their end and are as many as it has.
use Rattle.prelude.proofs.Prelude.{ℕ, ◌≤◌, ◌<◌, ◌≡◌, refl, sym, ap, ◌∙◌, List, Bool, true, false, ◌&&◌, and-false, arith, length, eqb, lt-leb, le-leb, eq-eqb, ne_eqb, eqb-true, eqb-false}
use Rattle.prelude.proofs.Ways.{by_cases}
use Rattle.coding.{specs.Reader.Ans, specs.Reader.Fault, specs.Reader.got, specs.Reader.halt, specs.Reader.after, specs.Codec.Run, specs.Codec.same_list, specs.inner.Shown.shown}
use Rattle.coding.{specs.Normal.Any, specs.Normal.several_at, specs.Normal.itself, specs.Normal.normal_form, proofs.Laws.Octets, proofs.Laws.RunLaws, proofs.Normal.every_octet, proofs.Reading.some_code, proofs.Basic.unless}
use Rattle.coding.{proofs.Whole.the_shortest, proofs.Padded.list_equal, proofs.Padded.eqb_equal}
use Rattle.any_elements.specs.inner.Forms.{sized, told}
use Rattle.trunk_types.specs.Extensions.{in_one, in_list, one_extension, many_extensions}
use Rattle.trunk_types.proofs.ExtensionLaws.{one_laws, list_laws}
use Rattle.trunk_read_extensions.specs.inner.Judges.{one_told, list_told, judge_of, inside_of}
use Rattle.trunk_read_extensions.proofs.Bridge.{Trees, one_trees, list_trees, counted}

-- what was told of an answer
pub told_got : {A : Type 0} (r : Ans A) {k p n : ℕ} → (k, p, tt, n) ≡ shown tt (told r) → k ≡ 0 → (x : A) × (r ≡ got x n)
unfolding told after shown
told_got (got x m) q k0 = (x, ap (λ (t : ℕ × ℕ × Unit {0} × ℕ). got x t.3) (sym q))
told_got (halt w m) q k0 = absurd (some_code w (sym (ap (λ (t : ℕ × ℕ × Unit {0} × ℕ). t.0) q) ∙ k0))

pub told_halt : {A : Type 0} (r : Ans A) {k p n : ℕ} → (k, p, tt, n) ≡ shown tt (told r) → (k ≡ 0 → ⊥) → (w : Fault) × (r ≡ halt w p)
unfolding told after shown
told_halt (got x m) q k0 = absurd (k0 (ap (λ (t : ℕ × ℕ × Unit {0} × ℕ). t.0) q))
told_halt (halt w m) q k0 = (w, ap (λ (t : ℕ × ℕ × Unit {0} × ℕ). halt w t.1) (sym q))

-- what is in an extension of a kind: how it is judged, and what is kept of it
pub record Held (kind : ℕ) : Type 1 where
  pub A : Type 0
  pub run : Run A
  pub laws : RunLaws run
  pub trees : Trees run
  pub judged : (s : List ℕ) (a e : ℕ) → judge_of kind s a e ≡ told (run.read s a e)
  pub kept : inside_of kind ≡ normal_form 242 run

pub held : (kind : ℕ) → Held kind
unfolding in_one in_list one_told list_told
held kind = go (eqb kind 2) refl
  where
    go : (b : Bool) → eqb kind 2 ≡ b → Held kind
    go true q = record { A = List (List ℕ × Any); run = many_extensions; laws = list_laws; trees = list_trees; judged = λ s a e. rw q; kept = rw q }
    go false q = record { A = List ℕ × Any; run = one_extension; laws = one_laws; trees = one_trees; judged = λ s a e. rw q; kept = rw q }

module _ (kind : ℕ) (xs : List ℕ) (os : Octets xs) where
  pub form_long : 242 < length xs → false ≡ (inside_of kind).valid xs
  unfolding normal_form
  form_long h = rw ((held kind).kept, lt-leb (length xs) 242 h)

  module _ (l : length xs ≤ 242) {k p n : ℕ} (q : (k, p, tt, n) ≡ shown tt (judge_of kind xs 0 (length xs))) where
    abbrev f : Run (held kind).A
    f = (held kind).run

    read : (k, p, tt, n) ≡ shown tt (told (f.read xs 0 (length xs)))
    read = rw (held kind).judged at q

    pub form_fault : (k ≡ 0 → ⊥) → false ≡ (inside_of kind).valid xs
    unfolding normal_form itself
    form_fault k0 = rw ((held kind).kept, le-leb (length xs) 242 l, every_octet xs os, (told_halt (f.read xs 0 (length xs)) read k0).1)

    module _ (k0 : k ≡ 0) where
      found : (x : (held kind).A) × (f.read xs 0 (length xs) ≡ got x n)
      found = told_got (f.read xs 0 (length xs)) read k0

      pub form_over : (n ≡ length xs → ⊥) → false ≡ (inside_of kind).valid xs
      unfolding normal_form itself
      form_over h =
          rw ((held kind).kept, le-leb (length xs) 242 l, every_octet xs os, found.1, ne_eqb n (length xs) h)
          (sym (and-false (same_list eqb (f.write found.0) xs)))

      pub form_whole : n ≡ length xs → {v : ℕ} → v ≡ sized (several_at xs 0 (length xs)) → eqb v (length xs) ≡ (inside_of kind).valid xs
      unfolding normal_form itself shown
      form_whole h {v} z =
          let F = (held kind).laws in
          let w = f.write found.0 in
          let e : f.read xs 0 (length xs) ≡ got found.0 (length xs) = found.1 ∙ ap (got found.0) h in
          let u : v ≡ length w = z ∙ counted f F (held kind).trees xs os 0 (length xs) (length xs) found.0 (omega arith) (omega arith) e in
          let m = (F.sound xs 0 (length xs) (length xs) found.0 os (omega arith) (omega arith) e).1 in
          let lists = list_equal eqb eqb_equal in
          rw ((held kind).kept, le-leb (length xs) 242 l, every_octet xs os, e, eq-eqb (length xs) (length xs) refl, u)
          (by_cases (eqb (length w) (length xs))
          (λ b. let same : xs ≡ w = the_shortest f F xs found.0 os (omega (arith, l)) m (sym (eqb-true _ (length xs) b)) in
          rw b (sym (ap (λ (ys : List ℕ). same_list eqb w ys && true) same ∙ ap (λ (t : Bool). t && true) (lists.self w))))
          (λ b. rw b (ap (λ (t : Bool). t && true) (sym (unless (same_list eqb w xs) (λ y. eqb-false _ (length xs) b (ap length (lists.equal w xs y))))))))
