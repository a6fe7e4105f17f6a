-- Octets that are one element, from the first to the last: read as a component they are never refused as cut, too long or trailing.
use Rattle.prelude.proofs.Prelude.{ℕ, ◌≤◌, ◌≡◌, refl, sym, ap, ◌∙◌, subst, List, [], ◌∷◌, Bool, true, false, cond, arith, length, get_or, eqb, lt-leb, eq-eqb}
use Rattle.coding.{specs.declared.Extent.Extent, specs.Reader.Ans, specs.Reader.after, specs.Reader.blamed, specs.Reader.closed, specs.Reader.entered_any, specs.Reader.Ans.got}
use Rattle.coding.{specs.Reader.Ans.halt, specs.Reader.Fault.unexpected, specs.Reader.Fault.named, specs.Codec.Element, specs.Codec.one_of, specs.Codec.frames, proofs.Basic.picked}
use Rattle.coding.{proofs.Basic.unpicked, proofs.Header.element_read, proofs.Header.element_range}
use Rattle.types.specs.{declared.Record.Record, Frames.outside, Frames.frame, Frames.component, Frames.answered, Frames.read_of}
use Rattle.types.proofs.{Places.Ends, Places.pick, Faults.Whole, Faults.Inside, Faults.plain_whole, Faults.frame_placed, Theorems.read_short}

abbrev tags : List ℕ
tags = 0xa1 ∷ 0xa2 ∷ 0xa3 ∷ 0xa4 ∷ []

abbrev Fine : Ans Record → Type 0
Fine r = Whole (answered r).number

-- what was read inside, and then that nothing is left over
ended : (a e next : ℕ) (r : Ans Record) → Ends Inside a e r → Fine (after r (λ v last. closed v last e next))
unfolding after closed
ended a e next (got v n) h = pick Fine (eqb n e) _ _ (λ q. omega arith) (λ q. plain_whole unexpected tt)
ended a e next (halt w p) h = h.0.1

module _ (s : List ℕ) (c m : ℕ) (o : Element s 0 c m (length s)) where
  abbrev found : Bool → Ans Extent
  found known = cond known (got (record { start = c; stop = m }) (length s)) (halt (named 4) 0)

  entered : entered_any tags outside (named 5) s 0 (length s) ≡ found (one_of tags (get_or s 0 0))
  unfolding entered_any after blamed
  entered =
      let g = element_range o in
      unpicked _ _ (lt-leb (length s) 0 (omega (arith, g.0, g.1, g.2)))
      ∙ ap (λ (r : Ans Extent). cond (one_of tags (get_or s 0 0)) (after (blamed outside r) (λ (x : Extent) next. cond (eqb next (length s)) (got x next) (halt (named 5) next))) (halt (named 4) 0))
      (element_read s 0 c m (length s) (length s) (omega arith) o)
      ∙ ap (λ (r : Ans Extent). cond (one_of tags (get_or s 0 0)) r (halt (named 4) 0)) (picked _ _ (eq-eqb (length s) (length s) refl))

  -- what follows the component's own tag and length octets
  abbrev inner : Ans Extent → Ans Record
  inner r = after r (λ (x : Extent) next. after ((frame (get_or s 0 0)).read s x.start x.stop) (λ v last. closed v last x.stop next))

  inner_fine_lem : (known : Bool) → Fine (inner (found known))
  unfolding after
  inner_fine_lem true =
      let g = element_range o in
      ended c m (length s) ((frame (get_or s 0 0)).read s c m) ((frame_placed (get_or s 0 0)).ends s c m (omega (arith, g.0)) g.1)
  inner_fine_lem false = omega arith

  read_fine : Fine (component.read s 0 (length s))
  unfolding component frames
  read_fine = subst (λ (r : Ans Extent). Fine (inner r)) (sym entered) (inner_fine_lem (one_of tags (get_or s 0 0)))

  -- A part of a Facility element that is one element, of at most 254 octets, is never refused 1, 3 or 5 as a component.
  pub tile_whole : length s ≤ 254 → Whole (read_of s).number
  unfolding read_of
  tile_whole l = subst Fine (sym (read_short s l)) read_fine
