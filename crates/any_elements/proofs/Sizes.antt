-- Elements up to an end, by the first of them: what the numbers that tell of them say.
use Rattle.prelude.proofs.Prelude.{ℕ, ◌+◌, ◌-◌, ◌*◌, ◌/◌, ◌%◌, ◌≤◌, ◌<◌, ◌≡◌, refl, sym, ap, ◌∙◌, List, ◌∷◌, ◌++◌, true, false, not, cond, arith, length, get_or, length-append}
use Rattle.prelude.proofs.{Ways.by_cases, Prelude.{eqb, ltb, leb, lt-leb, le-leb, lt-ltb, le-ltb, eq-eqb, ne_eqb, eqb-true, eqb-false, and-false}}
use Rattle.coding.{specs.declared.Extent.Extent, specs.Reader.Ans, specs.Reader.Fault, specs.Reader.got, specs.Reader.halt, specs.Reader.code, specs.Reader.after, specs.Reader.opened, specs.Reader.composite, specs.Reader.constructed, specs.Reader.choice, specs.Reader.length_at, specs.Reader.numbered_at}
use Rattle.coding.{specs.Reader.closed, specs.Reader.primitive, specs.Reader.ruled, specs.Reader.part, specs.Reader.mapped, specs.Codec.is_tag, specs.Codec.simple, specs.Codec.length_octets}
use Rattle.coding.specs.Normal.{as_judged, octet_string, Any, of_octets, of_elements, Several, more, opening, write_any, write_several, any_by, several_at}
use Rattle.coding.{specs.inner.Shown.shown, specs.inner.Written.lead, proofs.Laws.Octets, proofs.Basic.never, proofs.Basic.picked, proofs.Basic.unpicked, proofs.Basic.followed}
use Rattle.coding.{proofs.Basic.and_both, proofs.Header.opened_sound, proofs.Header.spans_range, proofs.Normal.several_unfolds, proofs.Normal.several_reads}
use Rattle.coding.{proofs.Reading.some_code, proofs.Parts.part_length, proofs.Header.tagged_yes, proofs.Search.endless_simple}
use Rattle.types.proofs.Places.{Ends, Plain, by_plain, pick, opened_ends, several_ends}
use Rattle.any_elements.specs.inner.Forms.{fault_number, sized, opened_any, span_number}

-- ---- tag and length octets

pub lead_2 : (n : ℕ) → n < 128 → 2 ≡ length (lead 0 n)
unfolding lead length_octets
lead_2 n h = simp (lt-ltb n 128 h)

pub lead_3 : (n : ℕ) → 128 ≤ n → n < 256 → 3 ≡ length (lead 0 n)
unfolding lead length_octets
lead_3 n l h = simp (le-ltb n 128 l, lt-ltb n 256 h)

pub lead_4 : (n : ℕ) → 128 ≤ n → 256 ≤ n → 4 ≡ length (lead 0 n)
unfolding lead length_octets
lead_4 n l h = simp (le-ltb n 128 l, le-ltb n 256 h)

pub wrapped_length : (tag : ℕ) (xs : List ℕ) → length (tag ∷ length_octets (length xs) ++ xs) ≡ length (lead 0 (length xs)) + length xs
unfolding lead
wrapped_length tag xs = omega (arith, length-append (length_octets (length xs)) xs)

-- ---- faults and spans as numbers

few : (w : Fault) → Plain w → code w < 256
few = by_plain (λ w. code w < 256) (omega arith) (omega arith) (omega arith) (omega arith) (omega arith) (omega arith) (omega arith)

-- a fault inside 257 octets
pub fault_told : (w : Fault) (p : ℕ) → Plain w → p ≤ 257
    → (1000 ≤ fault_number w p) × (fault_number w p < 0x40000) × ((fault_number w p - 1000) % 256 ≡ code w) × ((fault_number w p - 1000) / 256 ≡ p)
unfolding fault_number
fault_told w p h l = let c = few w h in (omega (arith, c), omega (arith, c, l), omega (arith, c), omega (arith, c))

span_told : (x y n : ℕ) {m : ℕ} → x ≤ 257 → y ≤ 257 → m ≡ x + 512 * y + 0x40000 * n → (m % 512 ≡ x) × (m / 512 % 512 ≡ y) × (m / 0x40000 ≡ n)
span_told x y n h l e = (omega arith, omega arith, omega arith)

-- ---- places

-- octets, and an end inside them and within 257
pub record Limit (s : List ℕ) (e : ℕ) : Type 0 where
  pub octets : Octets s
  pub inside : e ≤ length s
  pub small : e ≤ 257

pub nearer : {s : List ℕ} {e k : ℕ} → Limit s e → k ≤ e → Limit s k
nearer i h = record { octets = i.octets; inside = omega arith; small = omega arith }

-- a place before such an end
pub record Within (s : List ℕ) (a e : ℕ) : Type 0 where
  pub limit : Limit s e
  pub ahead : a < e

-- the element there, opened: its tag is not 00, its contents are x, and n is the place after it
pub record Element (s : List ℕ) (a e : ℕ) (x : Extent) (n : ℕ) : Type 0 where
  pub place : Within s a e
  pub tagged : get_or s a 0 ≡ 0 → ⊥
  pub opens : opened (get_or s a 0) s a e ≡ got x n

-- the element whose span is told by m
abbrev pub Spanned : List ℕ → ℕ → ℕ → ℕ → Type 0
Spanned s a e m = Element s a e (record { start = m % 512; stop = m / 512 % 512 }) (m / 0x40000)

-- ---- the first element

module _ (s : List ℕ) (a e : ℕ) (h : a < e) where
  -- its number, as the code comes to it
  pub span_none : get_or s a 0 ≡ 0 → 1000 + 41 + 256 * a ≡ span_number (opened_any s a e)
  unfolding opened_any span_number fault_number
  span_none z = rw (eq-eqb (get_or s a 0) 0 z)

  -- a primitive element's length has a number
  pub leaf_opens : composite (get_or s a 0) ≡ false → opened (get_or s a 0) s a e ≡ numbered_at a s (a + 1) e
  unfolding opened choice length_at
  leaf_opens c = rw (tagged_yes s a e (get_or s a 0) h refl, endless_simple s a (a + 1) e c)

  module _ (z : get_or s a 0 ≡ 0 → ⊥) (y : Extent) {k p n : ℕ} {x : Extent} (q : (k, p, x, n) ≡ shown y (opened (get_or s a 0) s a e)) where
    pub span_inside : e ≤ 257 → (x.start ≤ x.stop) × (x.stop ≤ e) → (p ≤ 257) × (n ≤ 257) × (x.start ≤ 257) × (x.stop ≤ 257)
    unfolding shown
    span_inside b c =
        let g = go (opened (get_or s a 0) s a e) (opened_ends (λ w i. Plain w) (λ w i u. u) (get_or s a 0) s a e (omega arith)) q in
        (omega (arith, g), omega (arith, g), omega (arith, c), omega (arith, c))
      where
        go : (r : Ans Extent) → Ends (λ w i. Plain w) a e r → (k, p, x, n) ≡ shown y r → (p ≤ e) × (n ≤ e)
        go (got v m) i d =
            let u : p ≡ 0 = ap (λ (t : ℕ × ℕ × Extent × ℕ). t.1) d in
            let w : n ≡ m = ap (λ (t : ℕ × ℕ × Extent × ℕ). t.3) d in
            (omega (arith, u), omega (arith, w, i.1))
        go (halt w j) i d =
            let u : p ≡ j = ap (λ (t : ℕ × ℕ × Extent × ℕ). t.1) d in
            let o : n ≡ 0 = ap (λ (t : ℕ × ℕ × Extent × ℕ). t.3) d in
            (omega (arith, u, i.2), omega (arith, o))

    pub span_is : {r : ℕ} → r ≡ cond (eqb k 0) (x.start + 512 * x.stop + 0x40000 * n) (1000 + k + 256 * p) → r ≡ span_number (opened_any s a e)
    unfolding opened_any span_number fault_number shown
    span_is f = f ∙ go (opened (get_or s a 0) s a e) refl q
      where
        go : (r : Ans Extent) → opened (get_or s a 0) s a e ≡ r → (k, p, x, n) ≡ shown y r
            → cond (eqb k 0) (x.start + 512 * x.stop + 0x40000 * n) (1000 + k + 256 * p) ≡ span_number (opened_any s a e)
        go (got v m) c d =
            let u : span_number (opened_any s a e) ≡ v.start + 512 * v.stop + 0x40000 * m = rw (ne_eqb (get_or s a 0) 0 z, c) in
            ap (λ (t : ℕ × ℕ × Extent × ℕ). cond (eqb t.0 0) (t.2.start + 512 * t.2.stop + 0x40000 * t.3) (1000 + t.0 + 256 * t.1)) d ∙ sym u
        go (halt w j) c d =
            let u : span_number (opened_any s a e) ≡ 1000 + code w + 256 * j = rw (ne_eqb (get_or s a 0) 0 z, c) in
            ap (λ (t : ℕ × ℕ × Extent × ℕ). cond (eqb t.0 0) (t.2.start + 512 * t.2.stop + 0x40000 * t.3) (1000 + t.0 + 256 * t.1)) d
            ∙ unpicked _ _ (ne_eqb (code w) 0 (some_code w)) ∙ sym u

  any_ends : Ends (λ w p. Plain w) a e (opened_any s a e)
  unfolding opened_any
  any_ends =
      pick (Ends (λ w p. Plain w) a e) (eqb (get_or s a 0) 0) _ _ (λ q. (tt, omega arith, omega arith)) (λ q. opened_ends (λ w p. Plain w) (λ w p i. i) (get_or s a 0) s a e (omega arith))

pub goes : {s : List ℕ} {a e : ℕ} {x : Extent} {n : ℕ} → Element s a e x n → (a + 2 ≤ x.start) × (x.start ≤ x.stop) × (x.stop ≤ n) × (n ≤ e)
goes {s} {a} {e} {x} {n} i = let p = opened_sound (get_or s a 0) s a e x n i.opens in let g = spans_range p.0 in (g.0, g.1, g.2, p.1)

module _ {s : List ℕ} {a e : ℕ} (i : Within s a e) where
  pub first : several_at s a e ≡ after (any_by several_at s a e) (λ x next. after (several_at s next e) (λ es last. got (more x es) last))
  first = several_unfolds s a e ∙ unpicked _ _ (lt-leb e a i.ahead)

  -- by its tag's bit
  module _ (z : get_or s a 0 ≡ 0 → ⊥) where
    real : is_tag (get_or s a 0) ≡ true
    real = and_both (ltb 0 (get_or s a 0)) _ (lt-ltb 0 (get_or s a 0) (omega (arith, z))) (lt-ltb (get_or s a 0) 256 (i.limit.octets a))

    pub leaf_tag : composite (get_or s a 0) ≡ false → simple (get_or s a 0) ≡ true
    leaf_tag b = and_both (is_tag (get_or s a 0)) _ real (ap not b)

    pub node_tag : composite (get_or s a 0) ≡ true → (simple (get_or s a 0) ≡ false) × (opening (get_or s a 0) ≡ true)
    node_tag b = (rw b (and-false (is_tag (get_or s a 0))), and_both (is_tag (get_or s a 0)) _ real b)

  -- it is opened, or not by a fault of its own
  opening_of : {P : Type 0} → ((x : Extent) (n : ℕ) → opened_any s a e ≡ got x n → Element s a e x n → P)
      → ((w : Fault) (p : ℕ) → opened_any s a e ≡ halt w p → Plain w → p ≤ 257 → P) → P
  unfolding opened_any
  opening_of {P} f g = go (opened_any s a e) refl (any_ends s a e i.ahead)
    where
      go : (r : Ans Extent) → opened_any s a e ≡ r → Ends (λ w p. Plain w) a e r → P
      go (got x n) q j =
          f x n q (by_cases (eqb (get_or s a 0) 0) (λ t. absurd (never (rw t at q)))
          (λ t. record { place = i; tagged = eqb-false (get_or s a 0) 0 t; opens = rw t at q }))
      go (halt w p) q j = g w p q j.0 (omega (arith, j.2, i))

  -- what is not opened is not read
  pub stops : {w : Fault} {p : ℕ} → opened_any s a e ≡ halt w p → any_by several_at s a e ≡ halt w p
  unfolding opened_any any_by primitive constructed after
  stops {w} {p} q =
      by_cases (eqb (get_or s a 0) 0)
      (λ t.
      let f : halt Fault.unexpected a ≡ halt w p = rw t at q in
      let u : Fault.unexpected ≡ w = cc in
      let v : a ≡ p = cc in
      rw (lt-leb e a i.ahead, eqb-true (get_or s a 0) 0 t, ← u, ← v))
      (λ t.
      let z = eqb-false (get_or s a 0) 0 t in
      let o : opened (get_or s a 0) s a e ≡ halt w p = rw t at q in
      by_cases (composite (get_or s a 0))
      (λ b. let g = node_tag z b in rw (lt-leb e a i.ahead, g.0, g.1, o))
      (λ b. rw (lt-leb e a i.ahead, leaf_tag z b, o)))

  pub stopped : {w : Fault} {p : ℕ} → opened_any s a e ≡ halt w p → several_at s a e ≡ halt w p
  unfolding after
  stopped q = rw (first, stops q)

  module _ {m : ℕ} (q : m ≡ span_number (opened_any s a e)) where
    -- a number below the spans is a fault
    pub span_fault : m < 0x40000 → (w : Fault) × (p : ℕ) × (opened_any s a e ≡ halt w p) × (m ≡ fault_number w p) × Plain w × (p ≤ 257)
    unfolding span_number
    span_fault k =
        opening_of (λ x n o j. absurd (omega (arith, q, ap span_number o, k, goes j)))
        (λ w p o h l. (w, p, o, q ∙ ap span_number o, h, l))

    -- another is a span
    pub span_got : 0x40000 ≤ m → Spanned s a e m
    unfolding span_number
    span_got k =
        opening_of
        (λ x n o j.
        let g = goes j in
        let t = span_told x.start x.stop n (omega (arith, g, i)) (omega (arith, g, i)) (q ∙ ap span_number o) in
        rw (t.0, t.1, t.2) j)
        (λ w p o h l. absurd (omega (arith, q, ap span_number o, k, (fault_told w p h l).1)))

    pub fault_sized : m < 0x40000 → m ≡ sized (several_at s a e)
    unfolding sized
    fault_sized k = let f = span_fault k in f.3 ∙ sym (ap sized (stopped f.2))

-- ---- the elements

pub sized_none : (s : List ℕ) (a e : ℕ) → e ≤ a → 0 ≡ sized (several_at s a e)
unfolding sized
sized_none s a e h = rw (several_unfolds s a e, le-leb e a h)

module _ {s : List ℕ} {e : ℕ} (i : Limit s e) {a : ℕ} (ae : a ≤ e) where
  -- they are read, and are small; or not, by a fault of theirs
  read_small : (es : Several) (n : ℕ) → several_at s a e ≡ got es n → (n ≡ e) × (a + length (write_several es) ≤ e)
  read_small es n r = let k = several_reads s i.octets a e ae i.inside es n r in (k.0, omega (arith, k.0, k.2))

  pub reading_of : {P : Type 0} → ((es : Several) → several_at s a e ≡ got es e → a + length (write_several es) ≤ e → P)
      → ((w : Fault) (p : ℕ) → several_at s a e ≡ halt w p → Plain w → p ≤ 257 → P) → P
  reading_of {P} f g = go (several_at s a e) refl (several_ends (λ w p. Plain w) (λ w p i. i) s a e ae)
    where
      go : (r : Ans Several) → several_at s a e ≡ r → Ends (λ w p. Plain w) a e r → P
      go (got es n) q j = let k = read_small es n q in f es (q ∙ ap (λ (m : ℕ). got es m) k.0) k.1
      go (halt w p) q j = g w p q j.0 (omega (arith, j.2, i))

  module _ {m : ℕ} (q : m ≡ sized (several_at s a e)) where
    pub sized_small : m < 0x40000
    unfolding sized
    sized_small =
        reading_of (λ es r l. omega (arith, q, ap sized r, l, i))
        (λ w p r h l. omega (arith, q, ap sized r, (fault_told w p h l).1))

    pub sized_got : m < 1000 → (es : Several) × (several_at s a e ≡ got es e) × (length (write_several es) ≡ m) × (a + m ≤ e)
    unfolding sized
    sized_got k =
        reading_of (λ es r l. let n = q ∙ ap sized r in (es, r, sym n, omega (arith, n, l)))
        (λ w p r h l. absurd (omega (arith, q, ap sized r, k, (fault_told w p h l).0)))

    pub sized_halt : 1000 ≤ m → (w : Fault) × (p : ℕ) × (several_at s a e ≡ halt w p) × (m ≡ fault_number w p) × Plain w × (p ≤ 257)
    unfolding sized
    sized_halt k = reading_of (λ es r l. absurd (omega (arith, q, ap sized r, k, l, i))) (λ w p r h l. (w, p, r, q ∙ ap sized r, h, l))

-- ---- an element and the rest

-- the first has j octets of contents, and tag and length octets
rest_joined : (y : Any) (j : ℕ) → length (write_any y) ≡ length (lead 0 j) + j → (x : Ans Several) → ((es : Several) (n : ℕ) → x ≡ got es n → length (write_several es) < 1000)
    → {k : ℕ} → k ≡ sized x → cond (leb 1000 k) k (length (lead 0 j) + j + k) ≡ sized (after x (λ es n. got (more y es) n))
unfolding sized fault_number after
rest_joined y j q (got es n) f {k} c =
    let d : k < 1000 = omega (arith, c, f es n refl) in
    rw (lt-leb 1000 k d) (omega (arith, q, c, length-append (write_any y) (write_several es)))
rest_joined y j q (halt w p) f {k} c = let d : 1000 ≤ k = omega (arith, c) in rw (le-leb 1000 k d) c

module _ {s : List ℕ} {a e : ℕ} {x : Extent} {n : ℕ} (i : Element s a e x n) where
  few_left : (es : Several) (m : ℕ) → several_at s n e ≡ got es m → length (write_several es) < 1000
  few_left es m r = omega (arith, (read_small i.place.limit (goes i).3 es m r).1)

  -- where its contents end
  pub inner_limit : Limit s x.stop
  inner_limit = nearer i.place.limit (omega (arith, goes i))

  -- primitive
  module _ (c : composite (get_or s a 0) ≡ false) where
    pub leaf_is : several_at s a e ≡ after (several_at s n e) (λ es last. got (more (of_octets (get_or s a 0) (part s x.start x.stop)) es) last)
    unfolding any_by primitive octet_string as_judged mapped ruled after
    leaf_is = first i.place ∙ rw (lt-leb e a i.place.ahead, leaf_tag i.place i.tagged c, i.opens)

    pub leaf_length : length (part s x.start x.stop) ≡ x.stop - x.start
    leaf_length = part_length s x.start x.stop inner_limit.inside

    pub leaf_joined : {k : ℕ} → k ≡ sized (several_at s n e)
        → cond (leb 1000 k) k (length (lead 0 (x.stop - x.start)) + (x.stop - x.start) + k) ≡ sized (several_at s a e)
    leaf_joined q =
        rest_joined (of_octets (get_or s a 0) (part s x.start x.stop)) (x.stop - x.start)
        (wrapped_length (get_or s a 0) (part s x.start x.stop) ∙ ap (λ (i : ℕ). length (lead 0 i) + i) leaf_length) (several_at s n e) few_left q
        ∙ sym (ap sized leaf_is)

  -- constructed
  module _ (c : composite (get_or s a 0) ≡ true) where
    pub node_is : several_at s a e
        ≡ after (after (after (several_at s x.start x.stop) (λ es last. closed es last x.stop n)) (λ es next. got (of_elements (get_or s a 0) es) next))
        (λ y next. after (several_at s next e) (λ es last. got (more y es) last))
    unfolding any_by constructed after
    node_is = let t = node_tag i.place i.tagged c in first i.place ∙ rw (lt-leb e a i.place.ahead, t.0, t.1, i.opens)

    pub node_read : (es : Several) → several_at s x.start x.stop ≡ got es x.stop
        → several_at s a e ≡ after (several_at s n e) (λ vs last. got (more (of_elements (get_or s a 0) es) vs) last)
    unfolding closed
    node_read es r = node_is ∙ followed _ (followed _ (followed _ r ∙ picked _ _ (eq-eqb x.stop x.stop refl)))

    pub node_fault : {m : ℕ} → m ≡ sized (several_at s x.start x.stop) → 1000 ≤ m → m ≡ sized (several_at s a e)
    unfolding sized after
    node_fault q k =
        let f = sized_halt inner_limit (goes i).1 q k in
        let r : several_at s a e ≡ halt f.0 f.1 = rw (node_is, f.2) in
        f.3 ∙ sym (ap sized r)

    pub node_joined : {j k : ℕ} → j ≡ sized (several_at s x.start x.stop) → j < 1000 → k ≡ sized (several_at s n e)
        → cond (leb 1000 k) k (length (lead 0 j) + j + k) ≡ sized (several_at s a e)
    node_joined {j} q h p =
        let w = sized_got inner_limit (goes i).1 q h in
        rest_joined (of_elements (get_or s a 0) w.0) j (wrapped_length (get_or s a 0) (write_several w.0) ∙ ap (λ (i : ℕ). length (lead 0 i) + i) w.2) (several_at s n e) few_left p
        ∙ sym (ap sized (node_read w.0 w.1))
