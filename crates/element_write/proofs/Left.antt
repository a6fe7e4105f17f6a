-- What writing an element answers and leaves.
use Rattle.prelude.proofs.Prelude.{ℕ, ◌+◌, ◌≤◌, ◌<◌, arith, zero-add, ◌≡◌, ap, ap₂, ◌∙◌, true, false, List, [], ◌∷◌, ◌++◌, length, take, drop, take-length, sets-eq}
use Rattle.prelude.proofs.Prelude.{le-leb, lt-leb, lt-ltb, le-ltb}
use Rattle.coding.{specs.inner.Written.Wrote, specs.inner.Written.Room, proofs.Writing.wrote_both, proofs.Writing.wrote_as}
use Rattle.element.specs.Element.{is_profile}
use Rattle.write.specs.{declared.Written.Written, Outcome.done, Outcome.no}
use Rattle.element_write.specs.Round.{round_by, is_tiled, element_holds, element_as, element_by}

-- ---- whether an element can hold the octets

pub held_none : (s : List ℕ) → length s ≡ 0 → false ≡ element_holds s
unfolding element_holds
held_none s e = simp (le-ltb 0 (length s) (omega (arith, e)))

module _ (s : List ℕ) (some : length s ≡ 0 → ⊥) where
  there : 0 < length s
  there = omega (arith, some)

  pub held_over : 254 < length s → false ≡ element_holds s
  unfolding element_holds
  held_over h = simp (lt-ltb 0 (length s) there, lt-leb (length s) 254 h)

  pub held_by : length s ≤ 254 → is_tiled s ≡ element_holds s
  unfolding element_holds
  held_by h = simp (lt-ltb 0 (length s) there, le-leb (length s) 254 h)

-- ---- the answer and the buffer

round_size : (profile : ℕ) (s : List ℕ) → length (round_by profile s) ≡ 3 + length s
unfolding round_by
round_size profile s = let e : length (0x1c ∷ (1 + length s) ∷ profile ∷ s) ≡ 3 + length s = omega arith in e

module _ (profile : ℕ) (s before : List ℕ) where
  pub not_held : {w : Written} → element_holds s ≡ false → w ≡ no 15 → (w, before) ≡ element_as profile s before
  unfolding element_as
  not_held h e = rw (e, h)

  pub no_room : {w : Written} → element_holds s ≡ true → length before < length s + 3 → w ≡ no 12 → (w, before) ≡ element_as profile s before
  unfolding element_as
  no_room h l e = rw (e, h, lt-leb (length (round_by profile s)) (length before) (omega (arith, round_size profile s)))

  all_wrote : {after : List ℕ} {q : ℕ} → element_holds s ≡ true → length s + 3 ≤ length before → Wrote before after 0 (round_by profile s) q → (done q, after) ≡ element_as profile s before
  unfolding element_as
  all_wrote {after} {q} h l w =
      rw (h, le-leb (length (round_by profile s)) (length before) (omega (arith, round_size profile s)))
      (ap₂ (λ (r : Written) (l : List ℕ). (r, l)) (ap done (w.place ∙ zero-add (length (round_by profile s))))
      (w.stored ∙ sets-eq (round_by profile s) before 0 (omega (arith, round_size profile s)) ∙ ap (λ (j : ℕ). round_by profile s ++ drop j before) (zero-add (length (round_by profile s)))))

  -- the three octets, and then the components
  module _ {mid : List ℕ} {p : ℕ} (l : length s + 3 ≤ length before) (a : Wrote before mid 0 (0x1c ∷ (1 + length s) ∷ profile ∷ []) p) where
    pub room_behind : Room mid p (take (length s) s)
    room_behind = rw (take-length s) (record { fits = omega (arith, a.place, a.kept) })

    module _ {after : List ℕ} {q : ℕ} (b : Wrote mid after p (take (length s) s) q) where
      both : Wrote before after 0 (round_by profile s) q
      unfolding round_by
      both = wrote_both a (wrote_as (take-length s) b)

      pub wrote_few : length s ≤ 254 → q ≤ 257
      wrote_few f = omega (arith, both.place, round_size profile s)

      pub wrote_all : element_holds s ≡ true → (done q, after) ≡ element_as profile s before
      wrote_all h = all_wrote h l both

-- ---- by the profile octet

module _ (profile : ℕ) (s before : List ℕ) where
  pub other_profile : {w : Written} → is_profile profile ≡ false → w ≡ no 17 → (w, before) ≡ element_by profile s before
  unfolding element_by
  other_profile h e = rw (e, h)

  pub known_profile : {x : Written × List ℕ} → is_profile profile ≡ true → x ≡ element_as profile s before → x ≡ element_by profile s before
  unfolding element_by
  known_profile h e = rw h e
