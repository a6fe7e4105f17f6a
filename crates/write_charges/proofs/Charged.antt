-- What a valid charge holds, by its kind, and its octets.
use Rattle.prelude.proofs.Prelude.{ℕ, ◌+◌, ◌≤◌, ◌≡◌, sym, ap, ◌∙◌, true, false, ◌&&◌, List, ◌++◌, arith, length, eq-eqb, ne_eqb}
use Rattle.coding.{specs.Codec.all, specs.Codec.write_all, specs.inner.Written.Wrote, specs.inner.Written.Room, proofs.Basic.and_left, proofs.Basic.and_right}
use Rattle.types.specs.{declared.Entries.Entries, declared.Figure.Figure, declared.Charge.Charge, Entries.unit, Entries.unit_at, Entries.unit_rows, Entries.unit_list}
use Rattle.types.specs.{Arguments.same_entries, Arguments.charge_of, Rates.rate, Rates.rate_list}
use Rattle.write_tests.{specs.inner.Fine.figure_fine, specs.inner.Fine.units_fine, specs.inner.Fine.rates_fine, specs.inner.Fine.entries_fine, proofs.Valid.charge_fine_lem}
use Rattle.write_elements.specs.inner.Element.{element}
use Rattle.write_figures.{specs.inner.Octets.{written, contents, before, after, ended, framed}, proofs.Forms.charge_write, proofs.Frames.{fine_marks, ended_split}}
use Rattle.write_rate.proofs.Three.{Three, three_length, room_1, room_2, room_3, wrote_3}
use Rattle.write_rates.{specs.inner.Arrays.rates_charge, proofs.Listed.few_valid, proofs.Listed.list_same, proofs.Listed.list_wider, proofs.Listed.rates_valid}
use Rattle.write_charges.specs.inner.Octets.{units_charge}

-- ---- the list

pub units_valid : (e : Entries) (n : ℕ) → units_fine e n ≡ true → (n ≤ 32) × (all unit.valid (unit_list e n) ≡ true)
unfolding units_fine
units_valid e n v = few_valid unit 32 n (unit_at e) (and_right (same_entries (unit_rows (unit_list e n)) e) _ v)

pub units_held : (e : Entries) (n count : ℕ) → n ≡ count → units_fine e count ≡ true → (n ≤ 32) × (all unit.valid (unit_list e n) ≡ true)
units_held e n count w v = units_valid e n (rw w v)

pub rates_held : (e : Entries) (n count : ℕ) → n ≡ count → rates_fine false e count ≡ true → (n ≤ 10) × (all (rate true).valid (rate_list e n) ≡ true)
rates_held e n count w v = rates_valid true e n (list_wider e n (rw w v))

-- ---- a valid charge

module _ (o : ℕ) (g : (30 ≤ o) × (o ≤ 36)) (c : Charge) (v : (charge_of o).valid c ≡ true) where
  both : figure_fine o c.figure && entries_fine c ≡ true
  both = sym (charge_fine_lem o g.0 g.1 c) ∙ v

  pub figure_fine_lem : figure_fine o c.figure ≡ true
  figure_fine_lem = and_left (figure_fine o c.figure) (entries_fine c) both

  listed : entries_fine c ≡ true
  listed = and_right (figure_fine o c.figure) (entries_fine c) both

  pub units_fine_lem : c.figure.kind ≡ 3 → units_fine c.entries c.figure.count ≡ true
  unfolding entries_fine
  units_fine_lem e = rw (eq-eqb c.figure.kind 3 e) at listed

  pub rates_fine_lem : c.figure.kind ≡ 4 → rates_fine false c.entries c.figure.count ≡ true
  unfolding entries_fine
  rates_fine_lem e = rw (ne_eqb c.figure.kind 3 (λ z. omega arith), eq-eqb c.figure.kind 4 e) at listed

  parts : (charge_of o).write c ≡ written o c.figure (contents c)
  parts = charge_write o g.0 g.1 c (fine_marks o c.figure figure_fine_lem)

  pub units_octets : c.figure.kind ≡ 3 → (charge_of o).write c ≡ units_charge o c.figure c.entries
  unfolding written contents
  units_octets e = parts ∙ rw e

  pub rates_octets : c.figure.kind ≡ 4 → (charge_of o).write c ≡ rates_charge c.entries c.figure.count
  unfolding written contents
  rates_octets e = parts ∙ rw e (ap (element 0x30) (list_same c.entries c.figure.count (rates_fine_lem e)))

-- ---- as they are put: k octets of n entries, of which a lead says how many

module _ (o : ℕ) (f : Figure) (e : Entries) (n k : ℕ) (w : n ≡ f.count) (q : k ≡ length (write_all unit.write (unit_list e n))) where
  units_parts : Three (units_charge o f e) (before o f k) (write_all unit.write (unit_list e n)) (after o f)
  units_parts =
      let xs = write_all unit.write (unit_list e n) in
      record {
        parts =
            ap (λ (j : ℕ). ended o f (framed o f (write_all unit.write (unit_list e j)))) (sym w) ∙ ended_split o f xs
            ∙ ap (λ (j : ℕ). before o f j ++ (xs ++ after o f)) (sym q);
      }

  pub units_length : length (units_charge o f e) ≡ length (before o f k) + k + length (after o f)
  units_length = omega (arith, three_length units_parts)

  module _ {l : List ℕ} {a : ℕ} where
    pub put_units_1 : Room l a (units_charge o f e) → Room l a (before o f k)
    put_units_1 h = room_1 units_parts h

    pub put_units_2 : Room l a (units_charge o f e) → {m : List ℕ} {b : ℕ} → Wrote l m a (before o f k) b → Room m b (write_all unit.write (unit_list e n))
    put_units_2 h p = room_2 units_parts h p

    pub put_units_3 : Room l a (units_charge o f e) → {m r : List ℕ} {b d : ℕ} → Wrote l m a (before o f k) b → Wrote m r b (write_all unit.write (unit_list e n)) d → Room r d (after o f)
    put_units_3 h p = room_3 units_parts h p

    pub put_units_4 : {m r t : List ℕ} {b d g : ℕ} → Wrote l m a (before o f k) b → Wrote m r b (write_all unit.write (unit_list e n)) d → Wrote r t d (after o f) g → Wrote l t a (units_charge o f e) g
    put_units_4 p = wrote_3 units_parts p
