-- The octets of a front that may be written, and how many they are.
use Rattle.prelude.proofs.Prelude.{ℕ, ◌+◌, ◌≤◌, ◌<◌, arith, ◌≡◌, refl, sym, ◌∙◌, true, false, true≢false, cond, ◌⊎◌, inl, inr, [], ◌∷◌, length, length-append}
use Rattle.prelude.proofs.{Prelude.{ltb, eqb, leb-true, ltb-true, ltb-false, eqb-true, eq-eqb, ne_eqb, lt-ltb, le-ltb}, Ways.by_cases}
use Rattle.coding.{specs.Leaves.{identifier, width}, proofs.Number.width_1, proofs.Small.{id_length, id_range, null_length}}
use Rattle.coding.proofs.{Holds.{holds, cond_iff, and_iff, cases}, Writing.{number_length, width_range, lead_length_short, lead_length_long}}
use Rattle.types.specs.{Frames.operations, Frames.errors, declared.Front.Front}
use Rattle.read_heads.proofs.Codes.{has_below}
use Rattle.write_heads.specs.inner.Fronts.{front_fine, front_octets, problem_fine}

-- ---- what may be written is small

problem_is : (p d : ℕ) → problem_fine p d ≡ true → (d < 128) × ((p ≡ 0x80) ⊎ ((p ≡ 0x81) ⊎ ((p ≡ 0x82) ⊎ (p ≡ 0x83))))
problem_is p d v =
    cases (simp holds at v) (λ h. (omega (arith, leb-true), inl (eqb-true _ _ h.0))) (λ v2.
    cases (simp holds at v2.1) (λ h. (omega (arith, leb-true), inr (inl (eqb-true _ _ h.0)))) (λ v3.
    cases (simp holds at v3.1) (λ h. (omega (arith, leb-true), inr (inr (inl (eqb-true _ _ h.0))))) (λ h.
    let k = simp holds at h.1 in (omega (arith, leb-true), inr (inr (inr (omega (arith, eqb-true))))))))

module _ (f : Front) (v : front_fine f ≡ true) where
  fine_small : (f.operation < 128) × ((f.error < 128) × (f.detail < 128))
  unfolding front_fine
  fine_small =
      cases (simp holds at v) (λ w. let k = simp holds at w.1 in
      cases k.1 (λ e. let h = simp holds at e.1 in omega (arith, eqb-true, leb-true, has_below 128 operations f.operation refl))
      (λ e. let h = simp holds at e.1 in omega (arith, eqb-true, has_below 128 operations f.operation refl))) (λ v2.
      cases (simp holds at v2.1) (λ w. let h = simp holds at w.1 in omega (arith, eqb-true, has_below 128 (30 ∷ []) f.operation refl)) (λ v3.
      cases (simp holds at v3.1) (λ w. let h = simp holds at w.1 in omega (arith, eqb-true, has_below 128 errors f.error refl)) (λ v4.
      cases (simp holds at v4.1) (λ w. let h = simp and_iff at w.1 in omega (arith, eqb-true, problem_is f.problem f.detail h.1.1))
      (λ w. absurd (true≢false (sym w.1))))))

  pub small_operation : f.operation < 128
  small_operation = fine_small.0

  pub small_error : f.error < 128
  small_error = fine_small.1.0

  pub small_detail : f.detail < 128
  small_detail = fine_small.1.1

  pub small_2 : f.frame ≡ 2 → f.operation < 128
  small_2 e = fine_small.0

  pub reject_problem : (f.frame ≡ 1 → ⊥) → (f.frame ≡ 2 → ⊥) → (f.frame ≡ 3 → ⊥) → (f.frame ≡ 4) × (problem_fine f.problem f.detail ≡ true)
  unfolding front_fine
  reject_problem a b d =
      let u : cond (eqb f.frame 4) _ false ≡ true = rw (ne_eqb _ _ a, ne_eqb _ _ b, ne_eqb _ _ d) at v in
      cases (simp cond_iff at u)
      (λ w. let h = simp and_iff at w.1 in (eqb-true f.frame 4 w.0, h.1.1)) (λ w. absurd (true≢false (sym w.1)))

  -- the problem's tag
  pub problem_tag : (f.frame ≡ 1 → ⊥) → (f.frame ≡ 2 → ⊥) → (f.frame ≡ 3 → ⊥) → (f.problem ≡ 0x80) ⊎ ((f.problem ≡ 0x81) ⊎ ((f.problem ≡ 0x82) ⊎ (f.problem ≡ 0x83)))
  problem_tag a b d = (problem_is f.problem f.detail (reject_problem a b d).1).1

-- ---- how many octets

abbrev size_of : Front → ℕ → ℕ → ℕ
size_of f n w =
    cond (eqb f.frame 1) (cond (eqb f.operation 30) (2 + w + 6) (2 + w + 3))
    (cond (eqb f.frame 2) (cond (ltb (n + 3) 128) (2 + w + 5) (2 + w + 6))
    (cond (eqb f.frame 3) (2 + w + 3)
    (cond (eqb f.unnamed 1) 5 (2 + w + 3))))

ruleset lengths = (length-append, id_length, number_length, null_length)

-- at least five, whatever is in it; and where all numbers are small, how many
counted : (f : Front) (n w : ℕ) → w ≡ length (identifier.write f.id)
    → (5 ≤ length (front_octets f n)) × (width f.operation ≡ 1 → width f.error ≡ 1 → width f.detail ≡ 1 → n < 250 → length (front_octets f n) ≡ size_of f n w)
unfolding front_octets
counted f n w e =
    let i = id_range f.id in
    let o = width_range f.operation in
    let x = width_range f.error in
    let d = width_range f.detail in
    by_cases (eqb f.frame 1) (λ q. by_cases (eqb f.operation 30) (λ o. rw (q, o) (simp lengths (omega arith))) (λ o. rw (q, o) (simp lengths (omega arith)))) (λ q1.
    by_cases (eqb f.frame 2) (λ q. by_cases (ltb (n + 3) 128)
    (λ o. rw (q1, q, o) (simp (lengths, lead_length_short 0x30 (3 + n) (omega (arith, ltb-true))) (omega arith)))
    (λ o. rw (q1, q, o) (simp lengths (omega arith, λ a b c h. omega (arith, lead_length_long 0x30 (3 + n) (omega (arith, ltb-false)) (omega arith)))))) (λ q2.
    by_cases (eqb f.frame 3) (λ q. rw (q1, q2, q) (simp lengths (omega arith))) (λ q3.
    by_cases (eqb f.unnamed 1) (λ q. rw (q1, q2, q3, q) (simp lengths (omega arith))) (λ q. rw (q1, q2, q3, q) (simp lengths (omega arith))))))

pub front_least : (f : Front) (n : ℕ) → 5 ≤ length (front_octets f n)
front_least f n = (counted f n _ refl).0

pub size_is : (f : Front) (n w : ℕ) {r : ℕ} → front_fine f ≡ true → n < 250 → w ≡ length (identifier.write f.id) → r ≡ size_of f n w → r ≡ length (front_octets f n)
size_is f n w v h e p =
    let s = fine_small f v in
    p ∙ sym ((counted f n w e).1 (width_1 _ s.0) (width_1 _ s.1.0) (width_1 _ s.1.1) h)

pub ruleset sizing = (eq-eqb, ne_eqb, lt-ltb, le-ltb, size_is)
