-- Entries of a list of extensions: the loop over them.
use Rattle.prelude.proofs.Prelude.{ℕ, ◌+◌, ◌≤◌, ◌<◌, arith, ◌≡◌, refl, ◌∙◌, List, [], ◌∷◌, ◌++◌, length, get_or, length-append, le-leb, lt-leb}
use Rattle.coding.{specs.Reader.Ans.got, specs.Reader.after, specs.Reader.entries, specs.Reader.list_of, specs.inner.Shown.shown, proofs.Lists.Going, proofs.Lists.going_start, proofs.Lists.going_more}
use Rattle.coding.proofs.Lists.{list_done, list_fault, list_limit, list_strange}
use Rattle.trunk_read_extensions.specs.inner.Judges.{entry_told, list_told}
use Rattle.trunk_read_extensions.proofs.Told.{list_is}

-- as many entries as counted are read, and the next would be at i
pub record Counted (s : List ℕ) (at end count i : ℕ) : Type 0 where
  pub known : List (Unit {0})
  pub going : Going 0x30 254 entry_told s at end known i
  pub counted : length known ≡ count

module _ (s : List ℕ) (at end : ℕ) where
  pub list_empty : end ≤ at → (0, 0, tt, at) ≡ shown tt (list_told s at end)
  unfolding entries after shown
  list_empty h = rw (list_is s at end, le-leb end at h)

  list_read : at < end → list_told s at end ≡ after (list_of 0x30 254 entry_told s at end) (λ us next. got tt next)
  unfolding list_of
  list_read h = list_is s at end ∙ simp (lt-leb end at h)

  pub counted_start : at < end → Counted s at end 0 at
  counted_start h = record { known = []; going = going_start _ _ _ _ _ _ h; counted = refl }

  module _ {count i : ℕ} (c : Counted s at end count i) where
    pub counted_more : i < end → count < 254 → {k p n : ℕ} → (k, p, tt, n) ≡ shown tt (entry_told s i end) → k ≡ 0 → Counted s at end (count + 1) n
    counted_more h l e k0 = record {
      known = c.known ++ (tt ∷ []);
      going = going_more _ _ _ _ _ _ c.known _ tt c.going h (omega (arith, c.counted)) e k0;
      counted = simp length-append (omega (arith, c.counted));
    }

    pub counted_done : end ≤ i → (0, 0, tt, i) ≡ shown tt (list_told s at end)
    unfolding shown
    counted_done h = rw (list_read c.going.begun) (list_done _ _ _ _ _ _ _ tt c.known _ c.going h refl)

    pub counted_fault : i < end → count < 254 → {k p n : ℕ} → (k, p, tt, n) ≡ shown tt (entry_told s i end) → (k ≡ 0 → ⊥) → (k, p, tt, 0) ≡ shown tt (list_told s at end)
    counted_fault h l e k0 = rw (list_read c.going.begun) (list_fault _ _ _ _ _ _ _ tt c.known _ c.going tt h (omega (arith, c.counted)) e k0)

    pub counted_limit : i < end → 254 ≤ count → get_or s i 0 ≡ 0x30 → (45, i, tt, 0) ≡ shown tt (list_told s at end)
    counted_limit h l e = rw (list_read c.going.begun) (list_limit _ _ _ _ _ _ _ tt c.known _ c.going h (omega (arith, c.counted)) e)

    pub counted_strange : i < end → 254 ≤ count → (get_or s i 0 ≡ 0x30 → ⊥) → (41, i, tt, 0) ≡ shown tt (list_told s at end)
    counted_strange h l e = rw (list_read c.going.begun) (list_strange _ _ _ _ _ _ _ tt c.known _ c.going h (omega (arith, c.counted)) e)
