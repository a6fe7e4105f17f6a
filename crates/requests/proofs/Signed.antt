-- A pattern's next is the number's next: one up, and after the highest the lowest. Once over the bits.
use Rattle.prelude.proofs.Prelude.{ℕ, zero, suc, ◌+◌, ◌-◌, ◌*◌, ◌%◌, ◌^◌, ◌<◌, ◌≤◌, ◌≡◌, refl, ap, Bool, true, false, cond, arith, mod-eq_of_lt, mod_self, ltb, eqb, ℤ, pos, negsuc}
use Rattle.prelude.proofs.Prelude.{◌+ℤ◌, lt-ltb, le-ltb, eq-eqb, ne_eqb, ltb-true, ltb-false, eqb-true, eqb-false}
use mir.{Syntax.w16, Val.to_z, Val.of_z, Val.sel}
use Rattle.requests.specs.Identifiers.{next_of, one_up}

-- after 32,767 comes -32,768
pub after_highest : to_z w16 (next_of (of_z w16 (pos 32767))) ≡ negsuc 32767
after_highest = refl

-- as many bits as have the highest number m: a pattern's sign is its highest bit
module _ (m : ℕ) where
  abbrev signed : ℕ → ℤ
  signed id = sel (ltb id (suc m)) (pos id) (negsuc (2 * suc m - suc id))

  abbrev up : ℤ → ℤ
  up (pos n) = cond (eqb n m) (negsuc m) (pos n +ℤ pos 1)
  up (negsuc n) = negsuc n +ℤ pos 1

  positive : (id : ℕ) → id ≤ m → signed id ≡ pos id
  positive id h = rw (lt-ltb id (suc m) (omega arith))

  negative : (id n : ℕ) → m < id → 2 * suc m ≡ suc id + n → signed id ≡ negsuc n
  negative id n h e = rw (le-ltb id (suc m) h) (ap negsuc (omega arith))

  signed_up : (id n : ℕ) → suc id + n ≡ 2 * suc m → signed ((id + 1) % (2 * suc m)) ≡ up (signed id)
  signed_up id zero h =
      let e : id + 1 ≡ 2 * suc m = omega arith in
      rw (e, mod_self (2 * suc m), positive 0 (omega arith), negative id 0 (omega arith) (omega arith))
  signed_up id (suc n) h = rw (mod-eq_of_lt {n = id + 1} {m = 2 * suc m} (omega arith)) (go (ltb id m) refl (eqb id m) refl)
    where
      go : (x : Bool) → ltb id m ≡ x → (y : Bool) → eqb id m ≡ y → signed (id + 1) ≡ up (signed id)
      go true p y q = let l = ltb-true id m p in rw (positive (id + 1) (omega arith), positive id (omega arith), ne_eqb id m (λ e. omega arith))
      go false p true q = let e = eqb-true id m q in rw (negative (id + 1) m (omega arith) (omega arith), positive id (omega arith), eq-eqb id m e)
      go false p false q =
          let l : m < id = omega (arith, ltb-false id m p, eqb-false id m q) in
          rw (negative (id + 1) n (omega arith) (omega arith), negative id (suc n) l (omega arith), lt-ltb 1 (suc (suc n)) (omega arith)) (ap negsuc (omega arith))

-- what the next of a pattern means is the number after what the pattern means
pub signed_next : (id : ℕ) → id < 2 ^ 16 → to_z w16 (next_of id) ≡ one_up (to_z w16 id)
signed_next id h = signed_up 32767 id (65535 - id) (omega arith)
