-- What writing answers and leaves, of a value of any family of frames.
use Rattle.prelude.proofs.Prelude.{ℕ, ◌≤◌, ◌<◌, arith, zero-add, ◌≡◌, refl, ap, ◌∙◌, true, false, List, ◌++◌, length, take, drop, take-append_seam, sets-eq, leb, leb-true, le-leb, lt-leb}
use Rattle.coding.specs.{Codec.Run, inner.Written.Wrote}
use Rattle.prelude.proofs.Ways.{by_cases}
use Rattle.write.specs.{declared.Written.Written, Outcome.done, Outcome.no, Outcome.write_family, Outcome.left_family}

module _ {A : Type 0} (family : Run A) (x : A) (before : List ℕ) where
  abbrev size : ℕ
  size = length (family.write x)

  -- w is the answer to the value, and after what it leaves
  abbrev pub Answers : Written → List ℕ → Type 0
  Answers w after = (w ≡ write_family family x (length before)) × (after ≡ left_family family x before)

  pub refused_10 : family.valid x ≡ false → Answers (no 10) before
  refused_10 v = rw v (refl, refl)

  pub refused_11 : family.valid x ≡ true → 254 < size → Answers (no 11) before
  refused_11 v l = rw (v, lt-leb size 254 l) (refl, refl)

  pub refused_12 : family.valid x ≡ true → size ≤ 254 → length before < size → Answers (no 12) before
  refused_12 v l h = rw (v, le-leb size 254 l, lt-leb size (length before) h) (refl, refl)

  pub wrote_all : (after : List ℕ) (k : ℕ) → family.valid x ≡ true → size ≤ 254 → size ≤ length before → Wrote before after 0 (family.write x) k → Answers (done k) after
  wrote_all after k v l h w =
      rw (v, le-leb size 254 l, le-leb size (length before) h) (
        ap done (w.place ∙ zero-add size),
        w.stored ∙ sets-eq (family.write x) before 0 (omega (arith, h)) ∙ ap (λ (j : ℕ). family.write x ++ drop j before) (zero-add size),
      )

  -- what is left where it is written: the shortest form first, of at most 254 octets, read back as the same value
  pub written_reads : {R : Type 0} (read : List ℕ → R) (accepted : A → R) → (family.valid x ≡ true → size ≤ 254 → read (family.write x) ≡ accepted x)
      → (write_family family x (length before)).number ≡ 0
      → ((write_family family x (length before)).count ≡ size) × (size ≤ 254) × (read (take size (left_family family x before)) ≡ accepted x)
  written_reads read accepted back e =
      by_cases (family.valid x) (λ p. by_cases (leb size 254) (λ q. by_cases (leb size (length before))
      (λ f. let l = leb-true size 254 q in
      rw (p, q, f) (refl, l, ap read (take-append_seam (family.write x) (drop size before)) ∙ back p l))
      (λ f. absurd (omega (arith, rw (p, q, f) at e)))) (λ q. absurd (omega (arith, rw (p, q) at e)))) (λ p. absurd (omega (arith, rw p at e)))

  -- a refusal leaves the buffer as it was
  pub refused_untouched : ((write_family family x (length before)).number ≡ 0 → ⊥) → left_family family x before ≡ before
  refused_untouched h =
      by_cases (family.valid x) (λ p. by_cases (leb size 254) (λ q. by_cases (leb size (length before))
      (λ f. absurd ((rw (p, q, f) at h) refl)) (λ f. rw (p, q, f))) (λ q. rw (p, q))) (λ p. rw p)

-- a value that may be written and whose written form is not longer than at most 254 octets for which there is room is never refused
pub fits_writes : {A : Type 0} (family : Run A) (x : A) (room long : ℕ) → (family.valid x ≡ true) × (length (family.write x) ≤ long) × (long ≤ 254) → long ≤ room
    → (write_family family x room ≡ done (length (family.write x))) × (length (family.write x) ≤ long)
fits_writes family x room long f l =
    let a : length (family.write x) ≤ 254 = omega (arith, f.1, f.2) in
    let b : length (family.write x) ≤ room = omega (arith, f.1, l) in
    (rw (f.0, le-leb _ _ a, le-leb _ _ b), f.1)
