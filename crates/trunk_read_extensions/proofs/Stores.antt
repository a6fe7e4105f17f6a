-- An extension read in the code's steps, and its shortest form in its place.
use Rattle.prelude.proofs.Prelude.{ℕ, zero, suc, ◌+◌, ◌-◌, ◌≤◌, ◌<◌, ◌≡◌, sym, ap, ◌∙◌, List, ◌∷◌, ◌++◌, true, arith, length, length-replicate, drop, set, replicate, sets, sets-eq, leb, lt-leb, le-leb, eq-eqb, ne_eqb}
use Rattle.coding.{specs.Reader.Ans, specs.Reader.got, specs.Reader.after, specs.Reader.opened, specs.Reader.closed, specs.Reader.constructed, specs.Codec.Run, specs.Codec.cons}
use Rattle.coding.{specs.Codec.canonical, specs.Codec.over, specs.Codec.pad, specs.inner.Shown.shown, specs.Normal.limited, specs.Normal.normal_form, specs.Normal.several_at, specs.inner.Written.Wrote, specs.inner.Written.Room, proofs.Laws.Octets}
use Rattle.coding.{specs.declared.Extent.Extent, proofs.Reading.after_assoc, proofs.Reading.step}
use Rattle.any_elements.specs.inner.Forms.{sized, is_read, forms_of, told}
use Rattle.trunk_types.specs.{declared.Extension.Extension, Stored.extension_in, Extensions.{no_extension, extension_by, extension_at}}
use Rattle.trunk_read_extensions.specs.inner.Judges.{judge_of, inside_of}
use Rattle.trunk_read_extensions.proofs.{Bridge.counted, Bridge.put, Forms.told_got, Forms.told_halt, Forms.held}

abbrev ending : Run (List ℕ) → List ℕ → ℕ → ℕ → ℕ → ℕ → Ans Extension
ending I s start stop next kind = after (after (I.read s start stop) (λ xs last. closed xs last stop next)) (λ xs n. got (extension_by kind xs) n)

pub extension_read : (tag kind : ℕ) (I : Run (List ℕ)) (s : List ℕ) (at end : ℕ)
    → (extension_at tag kind I).read s at end ≡ after (opened tag s at end) (λ x next. ending I s x.start x.stop next kind)
unfolding extension_at canonical over cons constructed
extension_read tag kind I s at end = after_assoc (opened tag s at end) _ _

-- how an extension ends whose contents end at n and are v octets long in their shortest form
pub record Ends (answer : ℕ × ℕ × Extension × ℕ) (s : List ℕ) (x : Extent) (kind next n v : ℕ) : Type 0 where
  pub long : 242 < v → (44, x.start, no_extension, 0) ≡ answer
  pub over : v ≤ 242 → (n ≡ x.stop → ⊥) → (41, n, no_extension, 0) ≡ answer
  pub room : n ≡ x.stop → (is_read (several_at s x.start x.stop) ≡ true) × (length (forms_of (several_at s x.start x.stop)) ≡ v)
  pub done : v ≤ 242 → n ≡ x.stop → (w : Extension) → w ≡ extension_by kind (forms_of (several_at s x.start x.stop)) → (0, 0, w, next) ≡ answer

-- an extension that is opened, and what is in it judged
module _ (tag kind : ℕ) (s : List ℕ) (at end : ℕ) {k₀ p₀ next : ℕ} {x : Extent}
    (o : (k₀, p₀, x, next) ≡ shown (record { start = 0; stop = 0 }) (opened tag s at end)) (z₀ : k₀ ≡ 0)
    (os : Octets s) (h : x.start ≤ x.stop) (l : x.stop ≤ length s) {k p n : ℕ} (q : (k, p, tt, n) ≡ shown tt (judge_of kind s x.start x.stop)) where
  abbrev f : Run (held kind).A
  f = (held kind).run

  abbrev answer : ℕ × ℕ × Extension × ℕ
  answer = shown no_extension ((extension_at tag kind (inside_of kind)).read s at end)

  read : (k, p, tt, n) ≡ shown tt (told (f.read s x.start x.stop))
  read = rw (held kind).judged at q

  goes_on : {t : ℕ × ℕ × Extension × ℕ} → t ≡ shown no_extension (ending (normal_form 242 f) s x.start x.stop next kind) → t ≡ answer
  goes_on r = rw extension_read (step _ _ _ _ o z₀ (rw (held kind).kept r))

  pub in_fault : (k ≡ 0 → ⊥) → (k, p, no_extension, 0) ≡ answer
  unfolding normal_form told after shown
  in_fault k0 =
      let r = told_halt (f.read s x.start x.stop) read k0 in
      goes_on (rw r.1 (ap (λ (t : ℕ × ℕ × Unit {0} × ℕ). (t.0, p, no_extension, 0)) (rw r.1 at read)))

  module _ (k0 : k ≡ 0) where
    found : (v : (held kind).A) × (f.read s x.start x.stop ≡ got v n)
    found = told_got (f.read s x.start x.stop) read k0

    pub in_next : n ≤ x.stop
    in_next = ((held kind).laws.sound s x.start x.stop n found.0 os h l found.1).0

    forms : n ≡ x.stop → (is_read (several_at s x.start x.stop) ≡ true) × (forms_of (several_at s x.start x.stop) ≡ f.write found.0)
    forms e =
        let w = put f (held kind).laws (held kind).trees s os x.start x.stop n found.0 h l found.1 in
        (ap (λ (i : ℕ). is_read (several_at s x.start i)) (sym e) ∙ w.0, ap (λ (i : ℕ). forms_of (several_at s x.start i)) (sym e) ∙ w.1)

    pub in_sized : {v : ℕ} → v ≡ sized (several_at s x.start n) → Ends answer s x kind next n v
    unfolding normal_form limited closed after shown
    in_sized {v} z =
        let size : v ≡ length (f.write found.0) =
        z ∙ counted f (held kind).laws (held kind).trees s os x.start x.stop n found.0 h l found.1 in
        let few : v ≤ 242 → leb (length (f.write found.0)) 242 ≡ true = λ b. le-leb (length (f.write found.0)) 242 (omega (arith, size, b)) in
        record {
          long = λ b. goes_on (rw (found.1, lt-leb (length (f.write found.0)) 242 (omega (arith, size, b))));
          over = λ b e. goes_on (rw (found.1, few b, ne_eqb n x.stop e));
          room = λ e. ((forms e).0, ap length (forms e).1 ∙ sym size);
          done = λ b e w c. goes_on (rw (found.1, few b, eq-eqb n x.stop e, c ∙ ap (extension_by kind) (forms e).1));
        }

-- ---- in its place

abbrev zeros : ℕ → List ℕ
zeros n = replicate n 0

drop_zeros : (k n : ℕ) → drop k (zeros n) ≡ zeros (n - k)
drop_zeros zero n = let i : n ≡ n - 0 = omega arith in ap zeros i
drop_zeros (suc k) zero = let i : 0 ≡ 0 - suc k = omega arith in ap zeros i
drop_zeros (suc k) (suc n) = let i : n - k ≡ suc n - suc k = omega arith in drop_zeros k n ∙ ap zeros i

pub room_in : {b : List ℕ} (xs : List ℕ) → b ≡ replicate 244 0 → length xs ≤ 242 → Room b 2 xs
room_in {b} xs z h =
    let none : ℕ = 0 in
    let n : length (zeros 244) ≡ 244 = length-replicate 244 none in
    let m : length b ≡ length (zeros 244) = ap length z in
    record { fits = omega (arith, h, m, n) }

pub in_place_lem : (before m : List ℕ) (kind v to : ℕ) (xs : List ℕ) → before ≡ replicate 244 0 → Wrote before m 2 xs to → v ≤ 242 → length xs ≡ v
    → extension_in (set (set m 0 kind) 1 v) ≡ extension_by kind xs
unfolding pad
in_place_lem before m kind v to xs z w b e =
    let none : ℕ = 0 in
    let n : length (zeros 244) ≡ 244 = length-replicate 244 none in
    let i : 244 - (2 + length xs) ≡ 242 - length xs = omega arith in
    let t : m ≡ 0 ∷ 0 ∷ (xs ++ zeros (242 - length xs)) =
    w.stored ∙ ap (λ (us : List ℕ). sets us 2 xs) z ∙ sets-eq xs (zeros 244) 2 (omega (arith, n, e))
    ∙ ap (λ (us : List ℕ). 0 ∷ 0 ∷ (xs ++ us)) (drop_zeros (2 + length xs) 244 ∙ ap zeros i) in
    rw (t, e)
