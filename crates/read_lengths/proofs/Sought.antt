-- What the code of the search and of tag and length octets cites: where it goes on, as the answer is shown.
use Rattle.prelude.proofs.Prelude.{ℕ, ◌+◌, ◌-◌, ◌≤◌, ◌<◌, ◌≡◌, refl, sym, ap, ◌∙◌, List, Bool, true, false, cond, arith}
use Rattle.coding.{specs.declared.Extent.Extent, specs.Reader.Ans, specs.Reader.got, specs.Reader.halt, specs.Reader.after, specs.Reader.code, specs.Reader.numbered_at, specs.Reader.find_end, specs.Reader.spanned}
use Rattle.coding.{specs.inner.Shown.shown, proofs.Reading.got_of, proofs.Reading.halt_of, proofs.Search.Inside, proofs.Search.inside, proofs.Search.unfolds, proofs.Search.turn_out}
use Rattle.coding.{proofs.Search.over_moves}
use Rattle.read_lengths.specs.inner.Bounds.{sought}

module _ (s : List ℕ) (at end : ℕ) where
  pub find_none : end ≤ at → 1042 ≡ sought (find_end s at end)
  unfolding sought
  find_none h = sym (ap sought (unfolds s at end ∙ turn_out s at end _ h))

  module _ {m : ℕ} (e : m ≡ sought (find_end s at end)) where
    -- a number below 1000 is the marker's place
    pub found_at : m < 1000 → (find_end s at end ≡ got m (m + 2)) × (at ≤ m) × (m + 2 ≤ end)
    unfolding sought
    found_at l = go (find_end s at end) (inside s at end) e
      where
        go : (r : Ans ℕ) → Inside s at end r → m ≡ sought r → (r ≡ got m (m + 2)) × (at ≤ m) × (m + 2 ≤ end)
        go (got stop next) i q = rw (q, ← i.1) (refl, i.0, omega (arith, i.1, i.2))
        go (halt w p) i q = absurd (omega (arith, q, l))

    -- another is a fault, which is handed on as it is
    module _ (l : 1000 ≤ m) (b : end ≤ 257) where
      pub fault_stays : (f : ℕ → ℕ → Ans ℕ) → m ≡ sought (after (find_end s at end) f)
      unfolding sought after
      fault_stays f = go (find_end s at end) (inside s at end) e
        where
          go : (r : Ans ℕ) → Inside s at end r → m ≡ sought r → m ≡ sought (after r f)
          go (got stop next) i q = absurd (omega (arith, q, l, b, i.1, i.2))
          go (halt w p) i q = q

      pub span_fault : (tag start : ℕ) (z : Extent) → (m - 1000, tag, z, 0) ≡ shown z (spanned tag start (find_end s at end))
      unfolding sought shown spanned
      span_fault tag start z = go (find_end s at end) (inside s at end) e
        where
          go : (r : Ans ℕ) → Inside s at end r → m ≡ sought r → (m - 1000, tag, z, 0) ≡ shown z (spanned tag start r)
          go (got stop next) i q = absurd (omega (arith, q, l, b, i.1, i.2))
          go (halt w p) i q = let k : m - 1000 ≡ code w = omega (arith, q) in ap (λ j. (j, tag, z, 0)) k

  pub stepped_moves : (z : Extent) {k p n : ℕ} {x : Extent} → (k, p, x, n) ≡ shown z (numbered_at at s (at + 1) end) → k ≡ 0 → (at + 2 ≤ n) × (n ≤ end)
  stepped_moves z {k} {p} {n} {x} e k0 = over_moves s at end x n (got_of (numbered_at at s (at + 1) end) z e k0)

-- a marker that is found gives the contents
pub span_got : (tag start m : ℕ) (r : Ans ℕ) (z : Extent) → r ≡ got m (m + 2) → (0, 0, record { start = start; stop = m }, m + 2) ≡ shown z (spanned tag start r)
unfolding shown spanned
span_got tag start m r z e = rw e

-- an element with a number: its fault, or the search after it
module _ {A : Type 0} (x : Ans A) (f : A → ℕ → Ans ℕ) (z : A) {k p n : ℕ} {v : A} (e : (k, p, v, n) ≡ shown z x) where
  pub number_fault : (k ≡ 0 → ⊥) → 1000 + k ≡ sought (after x f)
  unfolding sought after
  number_fault k0 = let h = halt_of x z e k0 in rw h.1 (ap (λ j. 1000 + j) h.2)

  pub number_over : {r : ℕ} → k ≡ 0 → r ≡ sought (f v n) → r ≡ sought (after x f)
  unfolding after
  number_over k0 q = rw (got_of x z e k0) q

-- by a test that the code made too
module _ (b : Bool) (x x' : Ans ℕ) {r : Bool} {t : ℕ} (e : r ≡ b) where
  pub picked : r ≡ true → t ≡ sought x → t ≡ sought (cond b x x')
  picked h k = rw (← e, h) k

  pub passed : r ≡ false → t ≡ sought x' → t ≡ sought (cond b x x')
  passed h k = rw (← e, h) k

-- the search after an element without a number, whose own marker was found
pub nested : (x : Ans ℕ) (f : ℕ → ℕ → Ans ℕ) {m r : ℕ} → x ≡ got m (m + 2) → r ≡ sought (f m (m + 2)) → r ≡ sought (after x f)
unfolding after
nested x f e q = rw e q

pub gives : (at next : ℕ) → at ≡ sought (got at next)
unfolding sought
gives at next = refl

pub ruleset seeking = (picked, passed, gives, number_fault, number_over, fault_stays, nested)
