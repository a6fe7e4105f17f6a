-- What the writer's answer and what it leaves say of reading a component of a trunk.
use Rattle.prelude.proofs.Prelude.{ℕ, ◌+◌, ◌≤◌, ◌≡◌, refl, ap, sym, ◌∙◌, true, List, length, get_or, get_or-drop, take, drop, replicate, arith, eq-eqb}
use Rattle.coding.proofs.{Laws.Octets, Whole.Encodes, Basic.and_both}
use Rattle.prelude.proofs.Ways.{by_cases}
use Rattle.trunk_types.specs.{declared.Trunk.Trunk, Components.trunk_component, Components.read_trunk, Components.trunk_accepted}
use Rattle.trunk_types.proofs.Theorems as Trunks
use Rattle.write.specs.Outcome.{done}
use Rattle.write.proofs.Family as Family
use Rattle.trunk_write.specs.Outcome.{spare_zero, Offered, trunk_write_of, trunk_left_of}

-- a front whose last four octets are zero
pub spare_clear : (front : List ℕ) → drop 44 front ≡ replicate 4 0 → spare_zero front ≡ true
spare_clear front e =
    let zero : (i : ℕ) → ◌≡◌ {A = ℕ} (get_or (replicate 4 0) i 0) 0 → get_or front (44 + i) 0 ≡ 0 = λ i z. sym (get_or-drop 44 front i 0) ∙ ap (λ (s : List ℕ). get_or s i 0) e ∙ z in
    and_both _ _ (and_both _ _ (eq-eqb _ 0 (zero 0 refl)) (eq-eqb _ 0 (zero 1 refl))) (and_both _ _ (eq-eqb _ 0 (zero 2 refl)) (eq-eqb _ 0 (zero 3 refl)))

module _ (o : Offered) (before : List ℕ) where
  abbrev size : ℕ
  size = length (trunk_component.write o.trunk)

  -- what is left where it is written: the shortest form first, of at most 254 octets, read back as the same component
  pub written_reads : (trunk_write_of o (length before)).number ≡ 0
      → ((trunk_write_of o (length before)).count ≡ size) × (size ≤ 254) × (read_trunk (take size (trunk_left_of o before)) ≡ trunk_accepted o.trunk)
  unfolding trunk_write_of trunk_left_of
  written_reads e =
      by_cases o.spare
      (λ s. rw s (Family.written_reads trunk_component o.trunk before read_trunk trunk_accepted (Trunks.reads_back o.trunk) (rw s at e)))
      (λ s. absurd (omega (arith, rw s at e)))

  -- no octets that mean the component are fewer, and those that are as many are those written
  pub written_shortest : (s : List ℕ) → Octets s → length s ≤ 254 → Encodes trunk_component o.trunk s
      → (size ≤ length s) × (length s ≡ size → s ≡ trunk_component.write o.trunk)
  written_shortest s os l m = (Trunks.none_shorter s o.trunk os m, Trunks.the_shortest s o.trunk os l m)

  -- a refusal is 10, 11 or 12 and leaves the buffer as it was
  pub refused_untouched : ((trunk_write_of o (length before)).number ≡ 0 → ⊥) → trunk_left_of o before ≡ before
  unfolding trunk_write_of trunk_left_of
  refused_untouched h = by_cases o.spare (λ s. rw s (Family.refused_untouched trunk_component o.trunk before (rw s at h))) (λ s. rw s)

-- a component that was read is never refused 10 or 11, and its written form is not longer than what was read
pub read_writes : (s : List ℕ) (t : Trunk) (room : ℕ) → Octets s → read_trunk s ≡ trunk_accepted t → length s ≤ room
    → (trunk_write_of (record { trunk = t; spare = true }) room ≡ done (length (trunk_component.write t))) × (length (trunk_component.write t) ≤ length s)
unfolding trunk_write_of
read_writes s t room os e l = Family.fits_writes trunk_component t room (length s) (Trunks.read_fits s t os e) l
