-- An accepted element is cut into components, and an element made of components is accepted.
use Rattle.prelude.proofs.Prelude.{ℕ, zero, suc, ◌+◌, ◌-◌, ◌≤◌, ◌<◌, arith, ◌≡◌, refl, sym, ap, ◌∙◌, Bool, true, false, cond, List, [], ◌∷◌, ◌++◌, append_assoc, append-nil, length, get_or}
use Rattle.prelude.proofs.Prelude.{take, drop, length-append, take-append-drop, List·getD-append, drop-length, take-append_seam, drop-drop, get_or-take, get_or-drop, get_or-append-add, ltb, eqb}
use Rattle.prelude.proofs.Prelude.{ltb-true, eqb-true, eq-eqb, ne_eqb, lt-ltb}
use Rattle.coding.{specs.declared.Extent.Extent, specs.Reader.Ans, specs.Reader.part, specs.Reader.length_at, specs.Reader.Ans.got, specs.Reader.Ans.halt, specs.Codec.Element}
use Rattle.coding.{specs.Codec.pad, proofs.Basic.Given, proofs.Basic.it, proofs.Basic.void, proofs.Basic.granted, proofs.Basic.known, proofs.Basic.choose, proofs.Basic.bind}
use Rattle.coding.{proofs.Basic.picked, proofs.Basic.unpicked, proofs.Basic.followed, proofs.Basic.and_left, proofs.Header.read_element, proofs.Header.element_read}
use Rattle.coding.{proofs.Header.element_range, proofs.Moved.Same, proofs.Moved.element_moved, proofs.Parts.part_length}
use Rattle.element.specs.Element.{tiled, tiles_in, is_profile, led, starts_found, malformed, element_of}
use Rattle.element.specs.Cut.{starts_of, first_or, parts_of, joined, Tile, Tiles, places_of}

-- ---- an accepted element is cut into components

part_rest : (s : List ℕ) (i n : ℕ) → i ≤ n → part s i n ++ drop n s ≡ drop i s
unfolding part
part_rest s i n h =
    let e : i + (n - i) ≡ n = omega arith in
    ap (λ (k : ℕ). take (n - i) (drop i s) ++ drop k s) (sym e) ∙ rw (← drop-drop (n - i) i s) (take-append-drop (n - i) (drop i s))

part_at : (s : List ℕ) (i n j : ℕ) → i + j < n → get_or s (i + j) 0 ≡ get_or (part s i n) j 0
unfolding part
part_at s i n j h = let k : j < n - i = omega arith in rw (get_or-take (n - i) (drop i s) j 0 k, get_or-drop)

part_tile : (s : List ℕ) (i : ℕ) {v : Extent} {n : ℕ} → length_at i s (i + 1) (length s) ≡ got v n → (i ≤ n) × (n ≤ length s) × Tile (part s i n)
part_tile s i {v} {n} e =
    let o = read_element s i (length s) v n e in
    let g = element_range o.0 in
    let size : length (part s i n) ≡ n - i = part_length s i n o.1 in
    let same : Same s (part s i n) 0 i i n =
    λ k j q l h. let z : k ≡ i + j = omega arith in ap (λ (r : ℕ). get_or s r 0) z ∙ part_at s i n j (omega arith) in (
      omega (arith, g.0, g.1, g.2),
      o.1,
      (v.start - i, v.stop - i, element_moved s (part s i n) 0 i 0 _ _ (length (part s i n)) (omega arith) (omega (arith, g)) (omega (arith, g)) (omega (arith, g, size)) same o.0),
    )

-- what is cut from a place on
record Cut (s : List ℕ) (i : ℕ) (xs : List ℕ) : Type 0 where
  whole : joined (parts_of s xs) ≡ drop i s
  fine : Tiles (parts_of s xs)
  begins : first_or (length s) xs ≡ i

cut_here : (s : List ℕ) (i : ℕ) (ys : List ℕ) {v : Extent} {n : ℕ} → length_at i s (i + 1) (length s) ≡ got v n → Cut s n ys → Cut s i (i ∷ ys)
cut_here s i ys {v} {n} e rest =
    let t = part_tile s i e in record {
      whole = rw (rest.begins, rest.whole) (part_rest s i n t.0);
      fine = (rw rest.begins t.2, rest.fine);
      begins = refl;
    }

cut : (turns : ℕ) (s : List ℕ) (i : ℕ) → i ≤ length s → Given (λ xs last. Cut s i xs) (tiled turns s i (length s))
unfolding tiled
cut zero s i h = void
cut (suc turns) s i h =
    choose (eqb i (length s))
    (λ q. let z = eqb-true i (length s) q in it (record { whole = rw z (sym (drop-length s)); fine = tt; begins = sym z }))
    (λ q. bind (granted (length_at i s (i + 1) (length s)) (λ v n e. e)) (λ v n e.
    bind (cut turns s n (part_tile s i e).1) (λ ys m r. it (cut_here s i ys e r))))

-- octets that are components from the first on are cut into them
pub cut_all : (turns : ℕ) (s : List ℕ) {last : ℕ} {xs : List ℕ} → tiled turns s 0 (length s) ≡ got xs last → (joined (parts_of s xs) ≡ s) × Tiles (parts_of s xs)
cut_all turns s e = let d = known (cut turns s 0 (omega arith)) e in (d.whole, d.fine)

-- an answer of 0 is that of starts that were found
answer_found : (b : Bool) (x : Ans (List ℕ)) → (cond b (starts_found x) malformed).number ≡ 0
    → (b ≡ true) × ((xs : List ℕ) × (last : ℕ) × (x ≡ got xs last) × (starts_of (cond b (starts_found x) malformed) ≡ xs))
unfolding starts_found pad
answer_found true (got xs last) e = (refl, (xs, last, refl, take-append_seam xs _))
answer_found true (halt w p) e = absurd (omega (arith, e))
answer_found false x e = absurd (omega (arith, e))

pub element_found : (s : List ℕ) → (element_of s).number ≡ 0
    → (led s ≡ true) × ((xs : List ℕ) × (last : ℕ) × (tiles_in s ≡ got xs last) × (starts_of (element_of s) ≡ xs))
unfolding element_of
element_found s e = answer_found (led s) (tiles_in s) e

pub led_long : (s : List ℕ) → led s ≡ true → 3 < length s
unfolding led
led_long s e = ltb-true 3 (length s) (and_left (ltb 3 (length s)) _ e)

-- The parts of an accepted element from each start to the next, the last to the end, join to all that follows the third octet; and each is one element, to its
-- end.
pub tiles : (s : List ℕ) → (element_of s).number ≡ 0 → (joined (parts_of s (starts_of (element_of s))) ≡ drop 3 s) × Tiles (parts_of s (starts_of (element_of s)))
tiles s e =
    let a = element_found s e in
    let d = known (cut (length s) s 3 (omega (arith, led_long s a.0))) a.1.2 in
    rw a.1.3 (d.whole, d.fine)

-- ---- an element made of components is accepted

tile_long : (p : List ℕ) → Tile p → 2 ≤ length p
tile_long p (c, m, o) = let g = element_range o in omega (arith, g.0, g.1, g.2)

tiles_long : (ps : List (List ℕ)) → Tiles ps → length ps ≤ length (joined ps)
tiles_long [] t = omega arith
tiles_long (p ∷ ps) t = omega (arith, tile_long p t.0, tiles_long ps t.1, length-append p (joined ps))

-- a component that stands between other octets is opened there
tile_there : (pre p post : List ℕ) → Tile p
    → (v : Extent) × (length_at (length pre) (pre ++ (p ++ post)) (length pre + 1) (length (pre ++ (p ++ post))) ≡ got v (length pre + length p))
tile_there pre p post (c, m, o) =
    let s : List ℕ = pre ++ (p ++ post) in
    let a : ℕ = length pre in
    let size : length s ≡ a + (length p + length post) = simp length-append in
    let same : Same p s a 0 0 (length p) =
    λ i j q l h.
    let z : j ≡ a + i = omega arith in
    sym (ap (λ (k : ℕ). get_or s k 0) z ∙ get_or-append-add pre (p ++ post) i 0 ∙ List·getD-append p post 0 i h) in
    let there : Element s a (a + c) (a + m) (a + length p) =
    element_moved p s a 0 a (a + c) (a + m) (a + length p) (omega arith) (omega arith) (omega arith) (omega arith) same o in
    (record { start = a + c; stop = a + m }, element_read s a (a + c) (a + m) (a + length p) (length s) (omega arith) there)

laid : (turns : ℕ) (pre : List ℕ) (ps : List (List ℕ)) → length ps < turns → Tiles ps
    → tiled turns (pre ++ joined ps) (length pre) (length (pre ++ joined ps)) ≡ got (places_of (length pre) ps) (length (pre ++ joined ps))
unfolding tiled
laid zero pre ps h t = absurd (omega arith)
laid (suc turns) pre [] h t = rw append-nil (picked _ _ (eq-eqb (length pre) (length pre) refl))
laid (suc turns) pre (p ∷ ps) h t =
    let s : List ℕ = pre ++ (p ++ joined ps) in
    let size : length s ≡ length pre + (length p + length (joined ps)) = simp length-append in
    let ne : length pre ≡ length s → ⊥ = λ e. omega (arith, tile_long p t.0) in
    let rest = rw (append_assoc pre p (joined ps), length-append pre p) at (laid turns (pre ++ p) ps (omega arith) t.1) in
    unpicked _ _ (ne_eqb (length pre) (length s) ne) ∙ followed _ (tile_there pre p (joined ps) t.0).1 ∙ followed _ rest

-- components by themselves are found from the first octet on
pub laid_all : (ps : List (List ℕ)) → Tiles ps
    → (length ps ≤ length (joined ps)) × (tiled (suc (length (joined ps))) (joined ps) 0 (length (joined ps)) ≡ got (places_of 0 ps) (length (joined ps)))
laid_all ps t = (tiles_long ps t, laid (suc (length (joined ps))) [] ps (omega (arith, tiles_long ps t)) t)

pub places_count : (a : ℕ) (ps : List (List ℕ)) → length (places_of a ps) ≡ length ps
places_count a [] = refl
places_count a (p ∷ ps) = ap suc (places_count (a + length p) ps)

led_so : (profile : ℕ) → is_profile profile ≡ true → (xs : List ℕ) → 0 < length xs → led (0x1c ∷ (1 + length xs) ∷ profile ∷ xs) ≡ true
unfolding led
led_so profile ok xs h =
    let long : 3 < length (0x1c ∷ (1 + length xs) ∷ profile ∷ xs) = omega arith in
    let same : 1 + length xs ≡ length (0x1c ∷ (1 + length xs) ∷ profile ∷ xs) - 2 = omega arith in
    simp (lt-ltb _ _ long, eq-eqb _ _ same, ok)

-- An element whose third octet, 91 or 9F, is followed by components, one at least, is accepted, and its starts are where they begin.
pub found : (profile : ℕ) → is_profile profile ≡ true → (ps : List (List ℕ)) → 0 < length ps → Tiles ps
    → element_of (0x1c ∷ (1 + length (joined ps)) ∷ profile ∷ joined ps) ≡ record { number = 0; count = length ps; starts = pad 127 0 (places_of 3 ps) }
unfolding element_of starts_found
found profile ok ps h t =
    let n : ℕ = length (joined ps) in
    let head : List ℕ = 0x1c ∷ (1 + n) ∷ profile ∷ [] in
    let m = tiles_long ps t in
    rw (led_so profile ok (joined ps) (omega arith), laid (length (head ++ joined ps)) head ps (omega arith) t, places_count 3 ps)
