-- The loop over an element's components: the starts so far, and that the whole is those and then the rest.
use Rattle.prelude.proofs.Prelude.{ℕ, suc, ◌+◌, ◌-◌, ◌*◌, ◌≤◌, ◌<◌, arith, sub-zero, ◌≡◌, refl, sym, ◌∙◌, List, [], ◌∷◌, ◌++◌, append-nil, length, get_or, length-append, lt-ltb, eq-eqb, ne_eqb}
use Rattle.coding.{specs.declared.Extent.Extent, specs.Reader.after, specs.Reader.length_at, specs.Reader.opened, specs.Reader.Ans.got, specs.inner.Shown.shown, specs.Codec.pad}
use Rattle.coding.{proofs.Header.opened_there, proofs.Header.read_element, proofs.Header.element_range, proofs.Lists.behind, proofs.Lists.behind_nil, proofs.Lists.behind_after}
use Rattle.coding.{proofs.Reading.got_of, proofs.Reading.halt_of}
use Rattle.element.specs.Element.{tiled, tiles_in, is_profile, led, starts_found, malformed}

-- ---- the first three octets

-- where the first two are right and there are enough, the third decides
pub third_decides : (s : List ℕ) → 3 < length s → get_or s 0 0 ≡ 0x1c → get_or s 1 0 ≡ length s - 2 → is_profile (get_or s 2 0) ≡ led s
unfolding led
third_decides s h e₀ e₁ = simp (lt-ltb 3 (length s) h, eq-eqb _ _ e₀, eq-eqb _ _ e₁)

-- ---- one component

-- it has a tag and a length octet at least, and ends inside
pub tile_size : (s : List ℕ) (i end : ℕ) {v : Extent} {n : ℕ} → length_at i s (i + 1) end ≡ got v n → (i + 2 ≤ n) × (n ≤ end)
tile_size s i end {v} {n} e =
    let o = read_element s i end v n e in
    let g = element_range o.0 in
    (omega (arith, g.0, g.1, g.2), o.1)

-- what the code finds at a component
abbrev pub Tile-at : List ℕ → ℕ → Extent → ℕ → Type 0
Tile-at s i v n = (length_at i s (i + 1) (length s) ≡ got v n) × (i + 2 ≤ n) × (n ≤ length s)

pub tile_read : (s : List ℕ) (i : ℕ) (z : Extent) {k p n : ℕ} {v : Extent} → i < length s → (k, p, v, n) ≡ shown z (opened (get_or s i 0) s i (length s)) → k ≡ 0 → Tile-at s i v n
tile_read s i z h e k0 =
    let t : length_at i s (i + 1) (length s) ≡ got _ _ = sym (opened_there (get_or s i 0) s i (length s) h refl) ∙ got_of _ z e k0 in
    let l = tile_size s i (length s) t in
    (t, l.0, l.1)

-- ---- the loop

pub turn : (turns : ℕ) (s : List ℕ) (i end : ℕ) → i < end →
    tiled (suc turns) s i end ≡ after (length_at i s (i + 1) end) (λ contents next. after (tiled turns s next end) (λ starts last. got (i ∷ starts) last))
unfolding tiled
turn turns s i end h = let ne : i ≡ end → ⊥ = λ e. omega arith in simp (ne_eqb i end ne)

-- The invariant: components begin at xs, each of two octets at least, and the next would begin at i.
pub record Laid (s xs : List ℕ) (i : ℕ) : Type 0 where
  pub few : 3 + 2 * length xs ≤ i
  pub inside : i ≤ length s
  pub rest : tiles_in s ≡ behind xs (tiled (length s - length xs) s i (length s))

pub laid_start : (s : List ℕ) → 3 ≤ length s → Laid s [] 3
laid_start s h = record { few = omega arith; inside = h; rest = simp (behind_nil, sub-zero) }

module _ {s xs : List ℕ} {i : ℕ} (g : Laid s xs i) where
  pub laid_more : {v : Extent} {n : ℕ} → i < length s → length_at i s (i + 1) (length s) ≡ got v n → Laid s (xs ++ (i ∷ [])) n
  unfolding after
  laid_more {v} {n} h e =
      let k : length s - length xs ≡ suc (length s - length (xs ++ (i ∷ []))) = simp length-append (omega (arith, g.few)) in
      let z = tile_size s i (length s) e in
      record {
        few = simp length-append (omega (arith, g.few, z.0));
        inside = z.1;
        rest = g.rest ∙ rw (k, turn _ s i (length s) h, e) (behind_after xs i _);
      }

  pub laid_done : length s ≤ i → record { number = 0; count = length xs; starts = pad 127 0 xs } ≡ starts_found (tiles_in s)
  unfolding starts_found tiled behind
  laid_done h =
      let k : length s - length xs ≡ suc (length s - length xs - 1) = omega (arith, g.few) in
      let e : i ≡ length s = omega (arith, g.inside) in
      rw (g.rest, k) (simp (eq-eqb i (length s) e, append-nil))

  pub laid_fault : (z : Extent) {k p n : ℕ} {v : Extent} → i < length s → (k, p, v, n) ≡ shown z (opened (get_or s i 0) s i (length s)) → (k ≡ 0 → ⊥) →
      malformed ≡ starts_found (tiles_in s)
  unfolding behind after starts_found
  laid_fault z h e k0 =
      let k : length s - length xs ≡ suc (length s - length xs - 1) = omega (arith, g.few) in
      let r = halt_of (opened (get_or s i 0) s i (length s)) z e k0 in
      rw (g.rest, k, turn _ s i (length s) h, ← opened_there (get_or s i 0) s i (length s) h refl, r.1)
