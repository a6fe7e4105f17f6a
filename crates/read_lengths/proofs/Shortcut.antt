-- What a length of one octet means: the code that finds one answers as the long way would.
use Rattle.prelude.proofs.Prelude.{ℕ, ◌+◌, ◌≤◌, ◌<◌, ◌≡◌, refl, sym, ap, ◌∙◌, List, Bool, true, false, ◌&&◌, arith, get_or, ltb, leb, eqb, ltb-true, leb-true, eqb-true, eqb-false, lt-ltb}
use Rattle.prelude.proofs.Prelude.{le-leb, eq-eqb}
use Rattle.coding.{specs.declared.Extent.Extent, specs.Reader.got, specs.Reader.marker, specs.Reader.opened, specs.Codec.short, specs.inner.Shown.shown, specs.inner.Shortcut.Short}
use Rattle.coding.{specs.inner.Shortcut.short_at, proofs.Basic.unpicked, proofs.Search.marker_is, proofs.Search.marker_yes, proofs.Header.opened_complete}

-- a test that cannot pass
pub no_test : (b : Bool) → (b ≡ true → ⊥) → b ≡ false
no_test true f = absurd (f refl)
no_test false f = refl

pub no_and : (a b : Bool) → (a ≡ true → b ≡ false) → a && b ≡ false
no_and true b f = f refl
no_and false b f = refl

module _ (s : List ℕ) (at end tag : ℕ) where
  -- what is answered, and what is known of it
  abbrev ShortIs : ℕ → Type 0
  ShortIs r = (r ≡ short_at s at end tag) × ((r ≤ 256) × (r < 128 → Short s at end tag r))

  pub not_short : (Short s at end tag (get_or s (at + 1) 0) → ⊥) → ShortIs 256
  unfolding short_at
  not_short f =
      let test = no_and (leb (at + 2) end) _ λ i. no_and (eqb (get_or s at 0) tag) _ λ n. no_and (ltb (get_or s (at + 1) 0) 128) _ λ l.
      no_test (leb (at + 2 + get_or s (at + 1) 0) end) λ j. f (record { inside = leb-true _ _ j; named = eqb-true _ _ n; small = ltb-true _ _ l; octet = refl }) in
      (sym (unpicked _ _ test), (omega arith, λ l. absurd (omega arith)))

  pub is_short : {n : ℕ} → Short s at end tag n → ShortIs n
  unfolding short_at
  is_short t =
      let i : at + 2 ≤ end = omega arith in
      (rw t.octet (simp (le-leb _ _ i, eq-eqb _ _ t.named, lt-ltb _ _ t.small, le-leb _ _ t.inside)), (omega arith, λ l. t))

  pub short_opens : {n : ℕ} → Short s at end tag n → opened tag s at end ≡ got (record { start = at + 2; stop = at + 2 + n }) (at + 2 + n)
  short_opens {n} t =
      opened_complete tag s at (at + 2) (at + 2 + n) end t.inside (t.named, short (omega arith) (omega arith) (omega arith), omega arith)

  pub short_shown : {n : ℕ} (z : Extent) → Short s at end tag n
      → (0, 0, record { start = at + 2; stop = at + 2 + n }, at + 2 + n) ≡ shown z (opened tag s at end)
  unfolding shown
  short_shown z t = sym (ap (shown z) (short_opens t))

-- 00 00 is the one element without contents whose tag is 00
pub short_marker : (s : List ℕ) (at end : ℕ) {r : ℕ} → r ≡ short_at s at end 0 → (r < 128 → Short s at end 0 r) → eqb r 0 ≡ marker s at end
short_marker s at end {r} e f = go (eqb r 0) refl
  where
    go : (b : Bool) → eqb r 0 ≡ b → b ≡ marker s at end
    go true q =
        let z : r ≡ 0 = eqb-true r 0 q in
        let t = f (omega arith) in
        sym (marker_yes s at end (omega arith) t.named (omega arith))
    go false q = sym (no_test _ λ m.
        let k = marker_is s at end m in
        eqb-false r 0 q (e ∙ sym (is_short s at end 0 (record { inside = omega arith; named = k.1; small = omega arith; octet = k.2 })).0))
