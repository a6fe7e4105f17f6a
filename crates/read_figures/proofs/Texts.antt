-- A loop over a string's octets into a part of a figure: what is known after some of them, and what each way out says.
use Rattle.prelude.proofs.Prelude.{ℕ, suc, ◌+◌, ◌-◌, ◌≤◌, ◌<◌, arith, sub-zero, ◌≡◌, ◌∙◌, Bool, true, false, List, [], ◌∷◌, ◌++◌, append_assoc, length, get_or, set, replicate, length-append}
use Rattle.prelude.proofs.Prelude.{length-replicate, set_at, le-ltb, lt-ltb, eq-eqb}
use Rattle.coding.{specs.Reader.part, specs.Reader.mapped, specs.Contents.every, specs.Contents.text, specs.Codec.pad, specs.inner.Shown.verdict, proofs.Parts.part_none, proofs.Parts.part_length}
use Rattle.coding.{proofs.Parts.part_more, proofs.Parts.every_more, proofs.Parts.every_stop}

-- one octet more, stored behind those that lie after the front
pub placed_more : (most : ℕ) (front xs back : List ℕ) (v k : ℕ) → length front + length xs ≡ k → length xs < most →
    set (front ++ (pad most 0 xs ++ back)) k v ≡ front ++ (pad most 0 (xs ++ (v ∷ [])) ++ back)
unfolding pad
placed_more most front xs back v k e h =
    let m = most - suc (length xs) in
    let a : most - length xs ≡ suc m = omega arith in
    let b : most - length (xs ++ (v ∷ [])) ≡ m = simp length-append (omega arith) in
    let l : length (front ++ xs) ≡ k = length-append front xs ∙ e in
    rw (a, b) (simp append_assoc (simp append_assoc at (set_at (front ++ xs) 0 (replicate m 0 ++ back) v k l)))

-- the first i octets of a string passed the test and are stored; the string lies inside the octets and is not too long
pub record Passed (ok : ℕ → Bool) (low most : ℕ) (front back s : List ℕ) (start stop i : ℕ) (figure : List ℕ) : Type 0 where
  pub stored : figure ≡ front ++ (pad most 0 (part s start (start + i)) ++ back)
  pub fine : every ok (part s start (start + i)) ≡ true
  pub within : start + i ≤ stop
  pub inside : stop ≤ length s
  pub enough : low ≤ stop - start
  pub short : stop - start ≤ most

module _ (ok : ℕ → Bool) (low most : ℕ) (front back s : List ℕ) (start stop : ℕ) where
  pub passed_start : {figure : List ℕ} → start ≤ stop → stop ≤ length s → low ≤ stop - start → stop - start ≤ most → figure ≡ front ++ (replicate most 0 ++ back) →
      Passed ok low most front back s start stop 0 figure
  unfolding pad every
  passed_start a b g d e =
      let none = part_none s start (start + 0) (omega arith) in
      record { stored = rw (none, sub-zero) e; fine = rw none; within = omega arith; inside = b; enough = g; short = d }

  module _ (i : ℕ) {figure : List ℕ} (p : Passed ok low most front back s start stop i figure) where
    long : length (part s start (start + i)) ≡ i
    long = part_length s start (start + i) (omega arith) ∙ omega arith

    pub passed_more : (at : ℕ) → length front ≡ at → i < stop - start → ok (get_or s (start + i) 0) ≡ true →
        Passed ok low most front back s start stop (i + 1) (set figure (at + i) (get_or s (start + i) 0))
    passed_more at e l o =
        let further : start + (i + 1) ≡ start + i + 1 = omega arith in
        let next : start + i < length s = omega arith in
        record {
          stored = rw (further, part_more s start (start + i) (omega arith) next, p.stored)
              (placed_more most front (part s start (start + i)) back _ (at + i) (omega (arith, long)) (omega (arith, long)));
          fine = rw further (every_more ok s start (start + i) (omega arith) next p.fine o);
          within = omega arith;
          inside = p.inside;
          enough = p.enough;
          short = p.short;
        }

    -- they fill their place
    pub placed_length : length (pad most 0 (part s start (start + i))) ≡ most
    unfolding pad
    placed_length = simp (length-append, length-replicate) (omega (arith, long))

-- ---- what the contents are: none, too many, one that fails, all passed

module _ (ok : ℕ → Bool) (low most : ℕ) (s : List ℕ) (start : ℕ) {A : Type 0} (z : A) (stop : ℕ) where
  pub text_empty : (to : List ℕ → A) → stop ≤ length s → low ≤ 1 → stop - start < low → (43, z) ≡ verdict z (mapped to (text low most ok (part s start stop)))
  unfolding text mapped verdict
  text_empty to fits one h =
      let l = part_length s start stop fits in
      let none : length (part s start stop) ≡ 0 = omega arith in
      let few : length (part s start stop) < low = omega arith in
      simp (lt-ltb _ _ few, eq-eqb _ _ none)

  pub text_long : (to : List ℕ → A) → stop ≤ length s → low ≤ stop - start → most < stop - start → (44, z) ≡ verdict z (mapped to (text low most ok (part s start stop)))
  unfolding text mapped verdict
  text_long to fits least h =
      let l = part_length s start stop fits in
      let some : low ≤ length (part s start stop) = omega arith in
      let long : most < length (part s start stop) = omega arith in
      simp (le-ltb _ _ some, lt-ltb _ _ long)

  module _ (i : ℕ) {front back figure : List ℕ} (p : Passed ok low most front back s start stop i figure) where
    pub text_bad : (to : List ℕ → A) → i < stop - start → ok (get_or s (start + i) 0) ≡ false → (44, z) ≡ verdict z (mapped to (text low most ok (part s start stop)))
    unfolding text mapped verdict
    text_bad to h o =
        let l = part_length s start stop p.inside in
        let some : low ≤ length (part s start stop) = omega arith in
        let few : length (part s start stop) ≤ most = omega arith in
        simp (le-ltb _ _ some, le-ltb _ _ few, every_stop ok s start (start + i) stop (omega arith) (omega arith) p.inside p.fine o)

    -- the value is made of the count and the octets stored
    pub text_kept : (to : ℕ → List ℕ → A) → stop - start ≤ i →
        (0, to (stop - start) (pad most 0 (part s start (start + i)))) ≡ verdict z (mapped (λ xs. to (length xs) (pad most 0 xs)) (text low most ok (part s start stop)))
    unfolding text mapped verdict
    text_kept to n =
        let l = part_length s start stop p.inside in
        let e : start + i ≡ stop = omega arith in
        let some : low ≤ length (part s start stop) = omega arith in
        let few : length (part s start stop) ≤ most = omega arith in
        let fine : every ok (part s start stop) ≡ true = rw e at p.fine in
        simp (le-ltb _ _ some, le-ltb _ _ few, fine) (rw (e, l))

pub ruleset texts = (text_empty, text_long, text_bad)
