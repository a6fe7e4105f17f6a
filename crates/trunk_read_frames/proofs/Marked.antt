-- What is read under a mark: its faults are told anew.
use Rattle.prelude.proofs.{Prelude.{ℕ, ◌≡◌, arith, ap, sym, ◌∙◌, ltb}, Ways.by_cases}
use Rattle.coding.{specs.Reader.Ans, specs.Reader.Fault, specs.Reader.after, specs.Reader.blamed, specs.inner.Shown.shown, proofs.Reading.got_of, proofs.Reading.halt_of}
use Rattle.types.specs.{Frames.in_argument, Stored.stored}
use Rattle.read_elements.specs.declared.Empty.{Empty}
use Rattle.read_figures.proofs.Answers.{is_stored, refused}
use Rattle.read_heads.{specs.inner.Heads.argument_code, proofs.Codes.told}
use Rattle.trunk_types.specs.Components.{in_network}

-- an argument's fault is one
inner_some : (k : ℕ) → (k ≡ 0 → ⊥) → argument_code k ≡ 0 → ⊥
inner_some k n = by_cases (ltb k 100) (λ q. rw q (λ e. omega (arith, e))) (λ q. rw q n)

module _ {A B : Type 0} (x : Ans A) (f : A → ℕ → Ans B) (z : A) (y : B) where
  -- a fault stays: the argument's by its own number, that of a network facility extension by 6
  stay_in : {k p n : ℕ} {v : A} → (k, p, v, n) ≡ shown z x → (k ≡ 0 → ⊥) → (argument_code k, p, y, 0) ≡ shown y (after (blamed in_argument x) f)
  unfolding shown after blamed
  stay_in {p = p} e k0 = let h = halt_of x z e k0 in rw h.1 (ap (λ i. (i, p, y, 0)) (ap argument_code h.2 ∙ (told h.0).1))

  pub stay_network : {k p n : ℕ} {v : A} → (k, p, v, n) ≡ shown z x → (k ≡ 0 → ⊥) → (106, p, y, 0) ≡ shown y (after (blamed in_network x) f)
  unfolding shown after blamed
  stay_network e k0 = let h = halt_of x z e k0 in rw h.1

  -- as a reader tells it that stores what it reads
  pub refused_in_lem : (w : B) {r : Empty} {k i p n : ℕ} {v : A} → r ≡ record { fault = i; place = p; next = 0 } → i ≡ argument_code k
      → (k ≡ 0 → ⊥) → (k, p, v, n) ≡ shown z x → (r.fault, r.place, stored y r.fault w, r.next) ≡ shown y (after (blamed in_argument x) f)
  refused_in_lem w q t k0 e = refused _ _ q (λ h. inner_some _ k0 (sym t ∙ h)) (rw t (stay_in e k0))

  -- a good answer goes on with what it stored
  pub goes_under : (m : Fault → Fault) (w : A) {k p n : ℕ} {t : ℕ × ℕ × B × ℕ} → (k, p, stored z k w, n) ≡ shown z x → k ≡ 0 → t ≡ shown y (f w n)
      → t ≡ shown y (after (blamed m x) f)
  unfolding after blamed
  goes_under m w {n = n} e k0 r = rw (got_of x z e k0) (r ∙ ap (λ v. shown y (f v n)) (sym (is_stored z w k0)))
