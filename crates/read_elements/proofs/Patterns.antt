-- An INTEGER's contents by how many octets they are and by the code's tests of them.
use Rattle.prelude.proofs.Prelude.{ℕ, ◌+◌, ◌-◌, ◌*◌, ◌≤◌, ◌<◌, min, arith, ◌≡◌, sym, ap, ◌∙◌, Bool, true, false, not, true≢false, List, [], ◌∷◌, length, get_or, leb, ltb, not-true, not-false}
use Rattle.prelude.proofs.Prelude.{le-leb, lt-leb, ne_eqb}
use Rattle.coding.{specs.Reader.part, specs.Reader.Ruling, specs.Contents.natural, specs.Contents.number_from, specs.Contents.shortest, specs.Contents.negative, specs.Leaves.integer}
use Rattle.coding.{specs.inner.Shown.verdict, proofs.Laws.Octets, proofs.Combine.octets_part, proofs.Signed.both_octets, proofs.Signed.too_many, proofs.Parts.part_none, proofs.Parts.part_cons}
use Rattle.coding.{proofs.Parts.part_length}

module _ (s : List ℕ) (i j : ℕ) (l : j ≤ length s) where
  one : j ≡ i + 1 → part s i j ≡ get_or s i 0 ∷ []
  one e =
      let a : i < j = omega arith in
      let b : j ≤ i + 1 = omega arith in
      rw (part_cons s i j a l, part_none s (i + 1) j b)

  more : i < j → (j ≡ i + 1 → ⊥) → part s i j ≡ get_or s i 0 ∷ get_or s (i + 1) 0 ∷ part s (i + 1 + 1) j
  more a f =
      let b : i + 1 < j = omega (arith, f) in
      rw (part_cons s i j a l, part_cons s (i + 1) j b l)

  -- ---- whether they are shortest

  pub shortest_none : j ≤ i → false ≡ shortest (part s i j)
  unfolding shortest
  shortest_none h = rw (part_none s i j h)

  pub shortest_one : j ≡ i + 1 → true ≡ shortest (part s i j)
  unfolding shortest
  shortest_one e = rw (one e)

  module _ (a : i < j) (f : j ≡ i + 1 → ⊥) where
    pub shortest_zero : get_or s i 0 ≡ 0 → leb 0x80 (get_or s (i + 1) 0) ≡ shortest (part s i j)
    unfolding shortest
    shortest_zero e = rw (more a f) (rw e)

    pub shortest_ones : get_or s i 0 ≡ 0xff → ltb (get_or s (i + 1) 0) 0x80 ≡ shortest (part s i j)
    unfolding shortest
    shortest_ones e = rw (more a f) (rw e)

    pub shortest_other : (get_or s i 0 ≡ 0 → ⊥) → (get_or s i 0 ≡ 0xff → ⊥) → true ≡ shortest (part s i j)
    unfolding shortest
    shortest_other g h = rw (more a f) (simp (ne_eqb _ _ g, ne_eqb _ _ h))

  -- ---- an identifier

  pub id_one : {v : ℕ} → j ≡ i + 1 → integer 2 (get_or s i 0 ∷ []) ≡ Ruling.good v → (0, v) ≡ verdict 0 (integer 2 (part s i j))
  unfolding verdict
  id_one e g = rw (one e, g)

  module _ {r : Bool} (sr : r ≡ shortest (part s i j)) where
    pub id_padded : r ≡ false → (43, 0) ≡ verdict 0 (integer 2 (part s i j))
    unfolding integer verdict
    id_padded h = simp (sym sr ∙ h)

    module _ (h : r ≡ true) (os : Octets s) where
      pub id_two : {n : ℕ} → j ≡ i + 2 → n ≡ min (number_from 0 (part s i j)) 16777216 → ((0, n) ≡ verdict 0 (integer 2 (part s i j))) × (n < 65536)
      unfolding verdict number_from
      id_two {n} e q =
          let none = part_none s (i + 1 + 1) j (omega arith) in
          let two : part s i j ≡ get_or s i 0 ∷ get_or s (i + 1) 0 ∷ [] = rw none at (more (omega arith) (λ f. omega arith)) in
          let k : shortest (get_or s i 0 ∷ get_or s (i + 1) 0 ∷ []) ≡ true = rw two at (sym sr ∙ h) in
          let v : n ≡ get_or s i 0 * 256 + get_or s (i + 1) 0 = omega (arith, q, ap (number_from 0) two, os i, os (i + 1)) in
          (rw (two, both_octets _ _ (os i) (os (i + 1)) k, v), omega (arith, v, os i, os (i + 1)))

      pub id_many : (j ≡ i + 1 → ⊥) → (j ≡ i + 2 → ⊥) → (44, 0) ≡ verdict 0 (integer 2 (part s i j))
      unfolding verdict part
      id_many f g =
          let k = sym sr ∙ h in
          let some : j ≤ i → ⊥ = λ e. true≢false (sym k ∙ sym (shortest_none e)) in
          let few : 2 < length (part s i j) = omega (arith, f, g, some, part_length s i j l) in
          rw (too_many (part s i j) (octets_part s (j - i) i os) k few)

-- ---- a number from low to high

module _ (xs : List ℕ) (low high : ℕ) {b : Bool} (sb : b ≡ shortest xs) where
  pub number_padded : b ≡ false → (43, 0) ≡ verdict 0 (natural low high xs)
  unfolding natural verdict
  number_padded h = simp (sym sb ∙ h)

  module _ (h : b ≡ true) {d : Bool} (nd : d ≡ negative xs) where
    short : shortest xs ≡ true
    short = sym sb ∙ h

    pub number_negative : d ≡ true → (44, 0) ≡ verdict 0 (natural low high xs)
    unfolding natural verdict
    number_negative k = simp (short, sym nd ∙ k)

    module _ (k : d ≡ false) {n : ℕ} (m : n ≡ min (number_from 0 xs) 16777216) where
      pub number_low : low < 16777216 → n < low → (44, 0) ≡ verdict 0 (natural low high xs)
      unfolding natural verdict
      number_low r l = let o : number_from 0 xs < low = omega arith in simp (short, sym nd ∙ k, lt-leb _ _ o)

      module _ (l : low ≤ n) (r : high < 16777216) where
        o : low ≤ number_from 0 xs
        o = omega arith

        pub number_high : high < n → (44, 0) ≡ verdict 0 (natural low high xs)
        unfolding natural verdict
        number_high u = let p : high < number_from 0 xs = omega arith in simp (short, sym nd ∙ k, le-leb _ _ o, lt-leb _ _ p)

        pub number_fits : n ≤ high → (0, n) ≡ verdict 0 (natural low high xs)
        unfolding natural verdict
        number_fits u =
            let p : number_from 0 xs ≤ high = omega arith in
            let e : n ≡ number_from 0 xs = omega arith in
            simp (short, sym nd ∙ k, le-leb _ _ o, le-leb _ _ p) (rw e)

pub ruleset shortening = (shortest_none, shortest_one, shortest_zero, shortest_ones, shortest_other)

pub ruleset numbers = (number_padded, number_negative, number_low, number_high, number_fits)
