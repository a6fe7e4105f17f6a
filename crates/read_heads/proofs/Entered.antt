-- The component's own element, and then its contents by its first octet.
use Rattle.prelude.proofs.Prelude.{ℕ, ◌≤◌, ◌<◌, arith, ◌≡◌, refl, ap, sym, ◌∙◌, true, false, List, [], ◌∷◌, length, get_or, leb, eq-eqb, ne_eqb, lt-leb, ap₂}
use Rattle.coding.{specs.Reader.Ans, specs.Reader.after, specs.Reader.closed, specs.Reader.length_at, specs.Reader.opened, specs.Reader.entered_any, specs.Reader.one_of, specs.Reader.Ans.got}
use Rattle.coding.{specs.Reader.Ans.halt, specs.Reader.Fault.named, specs.Codec.Run, specs.Codec.frames, specs.inner.Shown.shown, specs.declared.Extent.Extent, proofs.Header.opened_there}
use Rattle.coding.{proofs.Header.opened_sound, proofs.Header.spans_range, proofs.Frames.any_got, proofs.Reading.got_of}
use Rattle.read_lengths.specs.declared.Opened.{Opened}
use Rattle.types.{specs.declared.Record.Record, specs.Frames.{outside, component, frame, read_whole}, proofs.Theorems.read_short}
use Rattle.read_heads.specs.inner.Heads.{fault_by, contents_of}
use Rattle.read_heads.proofs.{Answers.goes, Answers.refuses, Codes.none_of, Codes.count, Codes.counted}

abbrev pub tags : List ℕ
tags = 0xa1 ∷ 0xa2 ∷ 0xa3 ∷ 0xa4 ∷ []

-- it is opened as its first octet alone would be
pub by_lengths : (s : List ℕ) (z : Extent) {t : ℕ × ℕ × Extent × ℕ} → t ≡ shown z (opened (get_or s 0 0) s 0 (length s)) → 0 < length s
    → t ≡ shown z (length_at 0 s 1 (length s))
by_lengths s z e h = e ∙ ap (shown z) (opened_there (get_or s 0 0) s 0 (length s) h refl)

-- it ends where the octets end, and its contents lie inside
pub entered_ends : (s : List ℕ) (x : Extent) (n : ℕ) → entered_any tags outside (named 5) s 0 (length s) ≡ got x n
    → (x.start ≤ x.stop) × (x.stop ≤ length s) × (n ≡ length s)
entered_ends s x n r =
    let g = any_got tags outside (named 5) s 0 (length s) r in
    let o = opened_sound (get_or s 0 0) s 0 (length s) x n g.1 in
    let i = spans_range o.0 in
    (i.1, omega (arith, i.2, o.1), g.2)

module _ (s : List ℕ) (l : length s ≤ 254) (z : Extent) {k p n : ℕ} {v : Extent} (e : (k, p, v, n) ≡ shown z (entered_any tags outside (named 5) s 0 (length s))) where
  pub read_refused : (k ≡ 0 → ⊥) → halt (fault_by k) p ≡ read_whole s
  unfolding component frames
  read_refused h = rw (read_short s l) (refuses _ _ z e h)

  -- by the first octet
  pub read_entered : {f : Run Record} → frame (get_or s 0 0) ≡ f → k ≡ 0 → contents_of f s v.start v.stop ≡ read_whole s
  unfolding component frames contents_of
  read_entered q h =
      let last : n ≡ length s = (entered_ends s v n (got_of _ z e h)).2 in
      rw (read_short s l) (goes _ _ z e h (ap₂ (λ g m. after (g.read s v.start v.stop) (λ w j. closed w j v.stop m)) (sym q) (sym last)))

pub ruleset framing = (read_refused, read_entered, eq-eqb, ne_eqb)

-- nothing follows
pub alone : {A : Type 0} (x : Ans A) (z : A) {t : ℕ × ℕ × A × ℕ} → t ≡ shown z (after x (λ v n. got v n)) → t ≡ shown z x
unfolding after
alone (got v n) z r = r
alone (halt w p) z r = r

-- a fault of it, as the code tells it, whichever tags it may have
pub refused : (tags s : List ℕ) (r : Opened) {k p : ℕ} → r ≡ record { fault = k; place = p; value = record { start = 0; stop = 0 }; next = 0 } → (k ≡ 0 → 0 < length s)
    → (k, p, record { start = 0; stop = 0 }, 0) ≡ shown (record { start = 0; stop = 0 }) (after (entered_any tags outside (named 5) s 0 (length s)) (λ v n. got v n))
    → ((r.fault, r.place, r.value, r.next) ≡ shown (record { start = 0; stop = 0 }) (entered_any tags outside (named 5) s 0 (length s)))
    × (((r.fault ≡ 0) → (0 < length s)) × (r.value.stop ≤ length s))
refused tags s r e some q = rw e (alone _ _ q, (some, omega arith))

pub tag_below : (n : ℕ) → n < 0xa1 → one_of tags n ≡ false
tag_below n l = none_of (leb 0xa1) tags n refl (lt-leb 0xa1 n l)

pub tag_above : (n : ℕ) → 0xa4 < n → one_of tags n ≡ false
tag_above n l = none_of (λ k. leb k 0xa4) tags n refl (lt-leb n 0xa4 l)

pub tag_among : (n : ℕ) → 0xa1 ≤ n → n ≤ 0xa4 → one_of tags n ≡ true
unfolding count
tag_among n l h = counted 0xa1 4 n l (omega arith)
