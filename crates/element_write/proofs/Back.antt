-- What is written is an element, going through it gives the same components, and no other octets are such an element.
use Rattle.prelude.proofs.Prelude.{ℕ, suc, ◌+◌, ◌-◌, ◌≤◌, ◌<◌, arith, ◌≡◌, refl, sym, ap, ◌∙◌, subst, true, false, true≢false, List, [], ◌∷◌, ◌++◌, append_assoc, append-nil, map, length, get_or, drop}
use Rattle.prelude.proofs.Prelude.{length-append, take-append_seam, drop-append_seam, ltb, leb, eqb, ltb-true, eqb-true, lt-ltb, le-leb}
use Rattle.coding.{specs.Reader.Ans, specs.Reader.part, specs.Reader.Ans.got, specs.Reader.Ans.halt, specs.Codec.pad, proofs.Basic.and_left, proofs.Basic.and_right}
use Rattle.types.specs.Frames.{read_of}
use Rattle.element.specs.{Element.{tiled, is_profile, led, element_of}, Cut.{starts_of, first_or, parts_of, joined, Tiles}}
use Rattle.element.{specs.Cut.places_of, proofs.Tiles.cut_all, proofs.Tiles.laid_all, proofs.Tiles.found, proofs.Tiles.places_count, proofs.Tiles.tiles, proofs.Tiles.element_found}
use Rattle.element_pass.{specs.Pass.Reads, specs.Pass.Through, specs.Pass.lines, proofs.Through.through}
use Rattle.element_write.specs.Round.{round, round_by, is_found, is_tiled, element_holds}

-- ---- octets that an element can hold are components laid end to end, and the other way round

was_found : (x : Ans (List ℕ)) → is_found x ≡ true → (xs : List ℕ) × (last : ℕ) × (x ≡ got xs last)
unfolding is_found
was_found (got xs last) e = (xs, last, refl)
was_found (halt w p) e = absurd (true≢false (sym e))

some_parts : (ps : List (List ℕ)) → 0 < length (joined ps) → 0 < length ps
some_parts [] h = absurd (omega arith)
some_parts (p ∷ ps) h = omega arith

pub held_parts : (s : List ℕ) → element_holds s ≡ true → (ps : List (List ℕ)) × (0 < length ps) × Tiles ps × (joined ps ≡ s)
unfolding element_holds is_tiled
held_parts s h =
    let some : 0 < length s = ltb-true 0 (length s) (and_left (ltb 0 (length s)) _ h) in
    let f = was_found (tiled (suc (length s)) s 0 (length s)) (and_right (leb (length s) 254) _ (and_right (ltb 0 (length s)) _ h)) in
    let c = cut_all (suc (length s)) s f.2 in
    (parts_of s f.0, some_parts (parts_of s f.0) (omega (arith, ap length c.0)), c.1, c.0)

pub parts_held : (ps : List (List ℕ)) → 0 < length ps → Tiles ps → length (joined ps) ≤ 254 → element_holds (joined ps) ≡ true
unfolding element_holds is_tiled is_found
parts_held ps h t l = simp (lt-ltb 0 (length (joined ps)) (omega (arith, (laid_all ps t).0)), le-leb (length (joined ps)) 254 l, (laid_all ps t).1)

-- ---- the same components

first_place : (pre p : List ℕ) (ps : List (List ℕ)) → first_or (length (pre ++ (p ++ joined ps))) (places_of (length pre + length p) ps) ≡ length pre + length p
first_place pre p [] = simp (append-nil, length-append)
first_place pre p (q ∷ ps) = refl

this_part : (pre p post : List ℕ) → part (pre ++ (p ++ post)) (length pre) (length pre + length p) ≡ p
unfolding part
this_part pre p post =
    let z : length pre + length p - length pre ≡ length p = omega arith in
    rw (z, drop-append_seam pre (p ++ post)) (take-append_seam p post)

parts_laid : (pre : List ℕ) (ps : List (List ℕ)) → parts_of (pre ++ joined ps) (places_of (length pre) ps) ≡ ps
parts_laid pre [] = refl
parts_laid pre (p ∷ ps) =
    let rest = rw (append_assoc pre p (joined ps), length-append pre p) at (parts_laid (pre ++ p) ps) in
    rw (first_place pre p ps, this_part pre p (joined ps), rest)

-- Going through the element that is written gives what each of the components gives by itself to a reader of its profile octet, in their order, and then the end.
pub back_by : {A : Type 0} (r : Reads A) (profile : ℕ) → is_profile profile ≡ true → (ps : List (List ℕ)) → 0 < length ps → Tiles ps
    → Through r (round_by profile (joined ps)) 3 (map (r.by profile) ps)
unfolding round_by pad
back_by r profile known ps h t =
    let s : List ℕ = 0x1c ∷ (1 + length (joined ps)) ∷ profile ∷ joined ps in
    let f = found profile known ps h t in
    let starts : starts_of (element_of s) ≡ places_of 3 ps = rw (f, ← places_count 3 ps) (take-append_seam (places_of 3 ps) _) in
    let parts : parts_of s (starts_of (element_of s)) ≡ ps = rw starts (parts_laid (0x1c ∷ (1 + length (joined ps)) ∷ profile ∷ []) ps) in
    subst (λ (qs : List (List ℕ)). Through r s 3 (map (r.by profile) qs)) parts (through r s (rw f refl))

-- those of a public line are read by document 01's table
pub read_back : (ps : List (List ℕ)) → 0 < length ps → Tiles ps → Through lines (round (joined ps)) 3 (map read_of ps)
unfolding is_profile
read_back ps h t = back_by lines 0x91 refl ps h t

-- ---- one form only

three : (t : List ℕ) → 3 < length t → t ≡ get_or t 0 0 ∷ get_or t 1 0 ∷ get_or t 2 0 ∷ drop 3 t
three [] h = absurd (omega arith)
three (a ∷ []) h = absurd (omega arith)
three (a ∷ b ∷ []) h = absurd (omega arith)
three (a ∷ b ∷ c ∷ t) h = refl

led_as : (t : List ℕ) → led t ≡ true → t ≡ round_by (get_or t 2 0) (drop 3 t)
unfolding led round_by
led_as t e =
    let a = and_right (ltb 3 (length t)) _ e in
    let b = and_right (eqb (get_or t 0 0) 0x1c) _ a in
    let long : 3 < length t = ltb-true 3 (length t) (and_left (ltb 3 (length t)) _ e) in
    let one : get_or t 0 0 ≡ 0x1c = eqb-true (get_or t 0 0) 0x1c (and_left (eqb (get_or t 0 0) 0x1c) _ a) in
    let two : get_or t 1 0 ≡ length t - 2 = eqb-true (get_or t 1 0) (length t - 2) (and_left (eqb (get_or t 1 0) (length t - 2)) _ b) in
    let size : length t - 2 ≡ 1 + length (drop 3 t) = omega (arith, ap length (three t long)) in
    three t long ∙ rw (one, two, size)

-- An accepted element that is cut into components is the one that is written round them with its own profile octet: no other octets hold them there, so none are fewer.
pub only_by : (t : List ℕ) → (element_of t).number ≡ 0 → t ≡ round_by (get_or t 2 0) (joined (parts_of t (starts_of (element_of t))))
only_by t e = led_as t (element_found t e).0 ∙ ap (round_by (get_or t 2 0)) (sym (tiles t e).0)

pub only_form : (t : List ℕ) → (element_of t).number ≡ 0 → get_or t 2 0 ≡ 0x91 → t ≡ round (joined (parts_of t (starts_of (element_of t))))
only_form t e line = only_by t e ∙ ap (λ (p : ℕ). round_by p (joined (parts_of t (starts_of (element_of t))))) line
