-- What contents of one octet mean, and of none: the code that finds them answers as the long way would.
use Rattle.prelude.proofs.Prelude.{ℕ, ◌+◌, ◌*◌, ◌≤◌, ◌<◌, ◌≡◌, refl, sym, List, [], ◌∷◌, arith, length, get_or, leb, eqb, leb-true, eqb-true, le-leb, lt-leb, eq-eqb}
use Rattle.coding.{specs.Reader.after, specs.Reader.ruled, specs.Reader.Ruling, specs.Reader.primitive, specs.Contents.natural, specs.Contents.shortest, specs.Contents.negative}
use Rattle.coding.{specs.Contents.number_from, specs.Contents.null, specs.Codec.Leaf, specs.Codec.prim, specs.Leaves.number, specs.Leaves.null_leaf, specs.inner.Shown.shown, specs.inner.Shortcut.Tiny}
use Rattle.coding.{specs.inner.Shortcut.Short, specs.inner.Shortcut.tiny_at, proofs.Basic.unpicked, proofs.Parts.part_none, proofs.Parts.part_cons}
use Rattle.read_lengths.proofs.Shortcut.{no_and, no_test, short_opens}

module _ (s : List ℕ) (at end tag : ℕ) where
  -- what is answered, and what is known of it
  abbrev TinyIs : ℕ → Type 0
  TinyIs r = (r ≡ tiny_at s at end tag) × ((r ≤ 256) × (r < 256 → Tiny s at end tag r))

  pub not_tiny : (Tiny s at end tag (get_or s (at + 2) 0) → ⊥) → TinyIs 256
  unfolding tiny_at
  not_tiny f =
      let test = no_and (leb (at + 3) end) _ λ i. no_and (eqb (get_or s at 0) tag) _ λ n. no_test (eqb (get_or s (at + 1) 0) 1) λ o.
      f (record { inside = leb-true _ _ i; named = eqb-true _ _ n; single = eqb-true _ _ o; octet = refl }) in
      (sym (unpicked _ _ test), (omega arith, λ l. absurd (omega arith)))

  pub is_tiny : {x : ℕ} → x < 256 → Tiny s at end tag x → TinyIs x
  unfolding tiny_at
  is_tiny l t = (rw t.octet (simp (le-leb _ _ t.inside, eq-eqb _ _ t.named, eq-eqb _ _ t.single)), (omega arith, λ m. t))

  -- a primitive element of one octet and of none
  pub tiny_read : {A : Type 0} {x : ℕ} (l : Leaf A) → end ≤ length s → Tiny s at end tag x → (prim tag l).read s at end ≡ ruled (l.judge (x ∷ [])) at (at + 3)
  unfolding prim primitive after
  tiny_read {x = x} l es t =
      let sh : Short s at end tag 1 = record { inside = omega arith; named = t.named; small = omega arith; octet = t.single } in
      let e : at + 2 + 1 ≡ at + 3 = omega arith in
      rw (short_opens s at end tag sh, part_cons s (at + 2) (at + 2 + 1) (omega arith) (omega arith), part_none s (at + 2 + 1) (at + 2 + 1) (omega arith), t.octet, e)

  -- a primitive element whose one octet is good contents
  pub tiny_shown : {A : Type 0} {x : ℕ} {v : A} (z : A) (l : Leaf A) → end ≤ length s → Tiny s at end tag x → l.judge (x ∷ []) ≡ Ruling.good v
      → (0, 0, v, at + 3) ≡ shown z ((prim tag l).read s at end)
  unfolding shown ruled
  tiny_shown z l es t g = rw (tiny_read l es t, g)

  pub tiny_natural : (low high : ℕ) {x : ℕ} → end ≤ length s → Tiny s at end tag x → x < 128 → low ≤ x → x ≤ high
      → (0, 0, x, at + 3) ≡ shown 0 ((prim tag (number low high)).read s at end)
  unfolding number natural shortest negative number_from
  tiny_natural low high {x} es t h a b =
      let e : 0 * 256 + x ≡ x = omega arith in
      tiny_shown 0 (number low high) es t (rw e (simp (lt-leb 0x80 x h, le-leb low x a, le-leb x high b)))

  pub bare_null : (n : ℕ) → Short s at end tag n → n ≡ 0 → (0, 0, tt {0}, at + 2) ≡ shown (tt {0}) ((prim tag null_leaf).read s at end)
  unfolding prim primitive after shown ruled null_leaf null
  bare_null n t z =
      let e : at + 2 + n ≡ at + 2 = omega arith in
      rw (short_opens s at end tag t, part_none s (at + 2) (at + 2 + n) (omega arith), e)
