-- The numbers of an object identifier, octet by octet.
use Rattle.prelude.proofs.Prelude.{ℕ, ◌+◌, ◌≤◌, ◌<◌, ◌≡◌, sym, ◌∙◌, List, Bool, true, false, arith, length, get_or, ltb, eqb, ne_eqb, ◌&&◌}
use Rattle.coding.{specs.Reader.part, proofs.Parts.part_cons, proofs.Parts.part_none, proofs.Parts.part_length, specs.inner.Shown.verdict}
use Rattle.trunk_types.specs.Extensions.{arcs, object_identifier}

module _ (s : List ℕ) (fresh : Bool) (i stop : ℕ) (h : i < stop) (l : stop ≤ length s) where
  pub arcs_stop : {r : Bool} → r ≡ fresh && eqb (get_or s i 0) 0x80 → r ≡ true → (43, tt) ≡ verdict tt (arcs fresh (part s i stop))
  unfolding arcs verdict
  arcs_stop e t = rw (part_cons s i stop h l, sym e ∙ t)

  pub arcs_step : {r : Bool} → r ≡ fresh && eqb (get_or s i 0) 0x80 → r ≡ false → arcs fresh (part s i stop) ≡ arcs (ltb (get_or s i 0) 0x80) (part s (i + 1) stop)
  unfolding arcs
  arcs_step e t = rw (part_cons s i stop h l, sym e ∙ t)

module _ (s : List ℕ) (fresh : Bool) (i stop : ℕ) (h : stop ≤ i) where
  pub arcs_whole : fresh ≡ true → (0, tt) ≡ verdict tt (arcs fresh (part s i stop))
  unfolding arcs verdict
  arcs_whole f = rw (part_none s i stop h, f)

  pub arcs_cut : fresh ≡ false → (44, tt) ≡ verdict tt (arcs fresh (part s i stop))
  unfolding arcs verdict
  arcs_cut f = rw (part_none s i stop h, f)

-- ---- the contents: none, or some

module _ (s : List ℕ) (start stop : ℕ) (inside : stop ≤ length s) where
  pub none_found : start ≡ stop → (43, tt) ≡ verdict tt (object_identifier (part s start stop))
  unfolding object_identifier verdict
  none_found e = rw (part_none s start stop (omega (arith, e)))

  pub some_found : {k : ℕ} → (start ≡ stop → ⊥) → start ≤ stop → (k, tt) ≡ verdict tt (arcs true (part s start stop)) → (k, tt) ≡ verdict tt (object_identifier (part s start stop))
  unfolding object_identifier
  some_found h l e = rw (ne_eqb (length (part s start stop)) 0 (λ z. h (omega (arith, l, z, part_length s start stop inside)))) e
