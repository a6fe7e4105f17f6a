-- A figure is added: the totals are those of the list with the figure, or, where it is refused, as they were. Assumes nothing.
use Rattle.prelude.proofs.Prelude.{ℕ, zero, suc, ◌+◌, ◌*◌, ◌^◌, ◌<◌, ◌≤◌, ◌≡◌, refl, sym, ◌∙◌, ap, ap₂, subst, List, [], ◌∷◌, map, Bool, true, false, not, ◌&&◌, cond, eqb, leb}
use Rattle.prelude.proofs.Prelude.{eqb-true, eqb-false, le-leb, lt-leb, leb-true, leb-false, arith, length, get_or, replicate, mod-eq_of_lt}
use lib.ListN.{get_or-replicate}
use mathlib.Core.List.{map_congr_left}
use Rattle.coding.{specs.Codec.all, specs.Codec.pad, specs.Rows.table, proofs.Basic.picked, proofs.Basic.unpicked, proofs.Rows.rows_table}
use Rattle.prelude.proofs.Ways.{by_cases}
use Rattle.phases.proofs.Choice.{never}
use Rattle.types.specs.{declared.Units.Units, declared.Charge.Charge, declared.Currency.Currency, Entries.unit}
use Rattle.same_final.specs.Same.{up_to}
use Rattle.closing.specs.Range.{in_range}
use Rattle.month_rows.{specs.declared.Row.Row, specs.Rows.plus, specs.Rows.zero_row, specs.Rows.row_of, specs.Places.placed, proofs.Search.at_most}
use Rattle.month_rules.specs.{declared.Month.Month, declared.Added.Added, Month.{empty_month, used, with_money, with_free, with_units, with_place, added, add_figure}}
use Rattle.month_totals.specs.Totals.{Posted, which, total, currency_of, is_money_call, is_free_call, is_unit_call, appears, currencies, row_by, entries_of, of_type, is_absent, units_in, absent_in}
use Rattle.month_totals.specs.Totals.{month_by, number_after, kept_after, added_to}
use Rattle.month_totals.proofs.{Rows.miss, Ranges.{Fine, AllFine, more, number, range, kind_not, entries_small}}
use Rattle.month_rules.proofs.Adding.{up_to_most, add_46, add_47, add_money, add_free, add_units}
use Rattle.month.proofs.Adding.{add_10, add_in}
use Rattle.month_totals.proofs.Filled.{Filled, used_is, new_is, filled_known, filled_new}
use Rattle.month_totals.proofs.Places.{Counts, counts_more, table_more, cells_are}
use Rattle.month_totals.proofs.Units.{entries_from, whole_list, units_length, units_sum, absent_sum, units_small, absent_small}

-- what a figure adds to by its kind
pub record Summed (m : Month) (h : List Posted) : Type 0 where
  pub filled : Filled m h
  pub free : m.free ≡ length (which is_free_call h)
  pub units : (k : ℕ) → k < 17 → get_or m.units k 0 ≡ total (units_in k) h
  pub types : length m.units ≡ 17
  pub absent : m.absent ≡ total absent_in h

pub record Totals (m : Month) (h : List Posted) : Type 0 where
  pub added : m.added ≡ length h
  pub sums : Summed m h
  pub counts : Counts m.grid.cells h

module _ (m : Month) (h : List Posted) (p : Posted) (t : Totals m h) (few : length h < 4096) (fine : AllFine h) (f : Fine p) where
  abbrev c : Charge
  c = p.charge

  abbrev done : Month → Month
  done n = with_place n p.service c.figure.billed c.figure.billing

  -- and each counts in the table
  counted_totals : (n : Month) → n.added ≡ m.added → n.grid.cells ≡ m.grid.cells → Summed n (p ∷ h) → Totals (done n) (p ∷ h)
  counted_totals n a g s = record {
    added = ap (λ (x : ℕ). plus 32 x 1) (a ∙ t.added) ∙ mod-eq_of_lt (let z : length h + 1 < 2 ^ 32 = omega (arith, few) in z) ∙ (let z : length h + 1 ≡ suc (length h) = omega arith in z);
    sums = record {
      filled = record { rows = s.filled.rows; count = s.filled.count; room = s.filled.room };
      free = s.free;
      units = s.units;
      types = s.types;
      absent = s.absent;
    };
    counts = subst (λ (x : List (List ℕ)). Counts (placed (record { cells = x }) p.service c.figure.billed c.figure.billing).cells (p ∷ h)) (sym g)
        (table_more m.grid.cells h p t.counts few f);
  }

  -- what is no list of units leaves the sums of units
  module _ (e : is_unit_call p ≡ false) where
    same_units : (k : ℕ) → k < 17 → get_or m.units k 0 ≡ total (units_in k) (p ∷ h)
    same_units k l = rw e (omega (arith, t.sums.units k l))

    same_absent : m.absent ≡ total absent_in (p ∷ h)
    same_absent = rw e (omega (arith, t.sums.absent))

  -- what is no money leaves the rows
  module _ (q : is_money_call p ≡ false) where
    same_currencies : currencies (p ∷ h) ≡ currencies h
    same_currencies = rw q refl

    other_filled : (n : Month) → n.rows ≡ m.rows → n.count ≡ m.count → Filled n (p ∷ h)
    other_filled n a b = record {
      rows = a ∙ t.sums.filled.rows ∙ ap (pad 16 zero_row) (map_congr_left {f = row_by h} {g = row_by (p ∷ h)} {l = currencies h} (λ d _. miss p h d (rw q refl)) ∙ ap (map (row_by (p ∷ h))) (sym same_currencies));
      count = b ∙ t.sums.filled.count ∙ ap length (sym same_currencies);
      room = subst (λ (l : List Currency). length l ≤ 16) (sym same_currencies) t.sums.filled.room;
    }

  not_free : is_free_call p ≡ false → m.free ≡ length (which is_free_call (p ∷ h))
  not_free k = rw k t.sums.free

  money_totals : is_money_call p ≡ true → Filled (with_money m c.figure.money) (p ∷ h) → Totals (done (with_money m c.figure.money)) (p ∷ h)
  money_totals q filled =
      let e : is_unit_call p ≡ false = kind_not c 2 3 (λ z. omega (arith, z)) q in
      counted_totals (with_money m c.figure.money) refl refl (record {
        filled = filled;
        free = not_free (kind_not c 2 1 (λ z. omega (arith, z)) q);
        units = same_units e;
        types = t.sums.types;
        absent = same_absent e;
      })

  free_totals : is_money_call p ≡ false → is_free_call p ≡ true → Totals (done (with_free m)) (p ∷ h)
  free_totals q k =
      let e : is_unit_call p ≡ false = kind_not c 1 3 (λ z. omega (arith, z)) k in
      counted_totals (with_free m) refl refl (record {
        filled = other_filled q (with_free m) refl refl;
        free = ap (λ (x : ℕ). plus 32 x 1) t.sums.free ∙ counts_more is_free_call p h few k;
        units = same_units e;
        types = t.sums.types;
        absent = same_absent e;
      })

  module _ (q : is_money_call p ≡ false) (k : is_free_call p ≡ false) where
    abbrev n : ℕ
    n = up_to 32 c.figure.count

    abbrev after : Month
    after = with_units m c.entries n

    all_entries : entries_from c.entries 0 n ≡ entries_of p
    all_entries =
        let u = f.kind q k in
        ap (entries_from c.entries 0) (picked _ _ (le-leb c.figure.count 32 (f.count u))) ∙ whole_list c.entries c.figure.count ∙ sym (picked _ _ u)

    units_summed : (i : ℕ) → i < 17 → get_or after.units i 0 ≡ total (units_in i) (p ∷ h)
    units_summed i l =
        let o = t.sums.units i l in let y = units_small i fine in let w = entries_small p f in let a = ap (total number) all_entries in
        let z : length h * 536870880 ≤ 4096 * 536870880 = omega (arith, few) in
        let s = units_sum c.entries 0 n m.units i (ap (all unit.valid) all_entries ∙ f.valid) t.sums.types l (omega (arith, o, y, w, a, z)) in
        let b = ap (λ (es : List Units). total number (which (of_type i) es)) all_entries in
        omega (arith, s, o, b)

    absent_summed : after.absent ≡ total absent_in (p ∷ h)
    absent_summed =
        let o = t.sums.absent in let y = absent_small fine in let w = up_to_most 32 c.figure.count in
        let s = absent_sum c.entries 0 n m.absent (omega (arith, o, y, w, few)) in
        let b = ap (λ (es : List Units). length (which is_absent es)) all_entries in
        omega (arith, s, o, b)

    units_totals : Totals (done after) (p ∷ h)
    units_totals = counted_totals after refl refl (record {
      filled = other_filled q after refl refl;
      free = not_free k;
      units = units_summed;
      types = units_length c.entries 0 n m.units ∙ t.sums.types;
      absent = absent_summed;
    })

-- ---- a figure is added or refused

pub record Stood (m : Month) (h : List Posted) (p : Posted) : Type 0 where
  pub number : (added_to m p).number ≡ number_after h p
  pub month : Totals (added_to m p).month (kept_after h p)

stood : (m : Month) (h : List Posted) (p : Posted) (n : ℕ) (k : Month) → added_to m p ≡ added n k → number_after h p ≡ n → Totals k (cond (eqb n 0) (p ∷ h) h) → Stood m h p
stood m h p n k e r t = record {
  number = ap (λ (a : Added). a.number) e ∙ sym r;
  month = subst (λ (a : Added). Totals a.month (kept_after h p)) (sym e) (subst (λ (i : ℕ). Totals k (cond (eqb i 0) (p ∷ h) h)) (sym r) t);
}

module _ (m : Month) (h : List Posted) (p : Posted) (t : Totals m h) (fine : AllFine h) where
  abbrev x : Currency
  x = currency_of p

  module _ (q : in_range p.service p.charge ≡ true) (few : length h < 4096) (less : m.added < 4096) where
    abbrev over : Bool
    over = is_money_call p && (not (appears x (currencies h)) && leb 16 (length (currencies h)))

    in_list_lem : number_after h p ≡ cond over 47 0
    in_list_lem = unpicked _ _ (ap not q) ∙ unpicked _ _ (lt-leb 4096 (length h) few)

    inside : added_to m p ≡ add_figure m p.service p.charge
    inside = add_in m p.service p.charge q

    money_stands : is_money_call p ≡ true → Stood m h p
    money_stands money =
        let kind = eqb-true p.charge.figure.kind 2 money in
        let i : ℕ = row_of x (used m) m.rows in
        let u = used_is m h t.sums.filled in let y = up_to_most 16 m.count in
        by_cases (appears x (currencies h))
        (λ k. let new : eqb i (used m) ≡ false = new_is m h t.sums.filled x ∙ ap not k in
        let z = at_most x (used m) m.rows in
        let other : i ≡ 16 → ⊥ = λ e. eqb-false i (used m) new (omega (arith, e, y, z)) in let w : over ≡ false = rw (money, k) refl in
        stood m h p 0 _ (inside ∙ add_money m p.service p.charge less kind i (used m) refl refl other) (in_list_lem ∙ unpicked _ _ w)
        (money_totals m h p t few fine (range p q) money (filled_known m h t.sums.filled p money few fine (range p q) k)))
        (λ k. let new : i ≡ used m = eqb-true i (used m) (new_is m h t.sums.filled x ∙ ap not k) in
        by_cases (leb 16 (length (currencies h)))
        (λ l. let g = leb-true 16 (length (currencies h)) l in let w : over ≡ true = rw (money, k, l) refl in
        stood m h p 47 m (inside ∙ add_47 m p.service p.charge less kind i (used m) refl refl (omega (arith, new, u, g, y))) (in_list_lem ∙ picked _ _ w) t)
        (λ l. let g = leb-false 16 (length (currencies h)) l in let w : over ≡ false = rw (money, k, l) refl in
        stood m h p 0 _ (inside ∙ add_money m p.service p.charge less kind i (used m) refl refl (λ e. omega (arith, e, new, u, g))) (in_list_lem ∙ unpicked _ _ w)
        (money_totals m h p t few fine (range p q) money (filled_new m h t.sums.filled p money few fine (range p q) k g))))

    other_stands : is_money_call p ≡ false → Stood m h p
    other_stands k =
        let kind = eqb-false p.charge.figure.kind 2 k in let z : over ≡ false = rw k refl in let w = in_list_lem ∙ unpicked _ _ z in
        by_cases (is_free_call p)
        (λ f. stood m h p 0 _ (inside ∙ add_free m p.service p.charge less kind (eqb-true p.charge.figure.kind 1 f)) w (free_totals m h p t few fine (range p q) k f))
        (λ f. stood m h p 0 _ (inside ∙ add_units m p.service p.charge less kind (eqb-false p.charge.figure.kind 1 f)) w (units_totals m h p t few fine (range p q) k f))

  pub stands : Stood m h p
  stands =
      by_cases (in_range p.service p.charge)
      (λ q. let a = t.added in by_cases (leb 4096 (length h))
      (λ l. let g = leb-true 4096 (length h) l in
      stood m h p 46 m (add_in m p.service p.charge q ∙ add_46 m p.service p.charge (omega (arith, g, a))) (unpicked _ _ (ap not q) ∙ picked _ _ l) t)
      (λ l. let few = leb-false 4096 (length h) l in let less : m.added < 4096 = omega (arith, few, a) in
      by_cases (is_money_call p) (money_stands q few less) (other_stands q few less)))
      (λ q. stood m h p 10 m (add_10 m p.service p.charge q) (picked _ _ (ap not q)) t)

  accepted : eqb (number_after h p) 0 ≡ true → in_range p.service p.charge ≡ true
  accepted z = by_cases (in_range p.service p.charge) (λ q. q) (λ q. never (rw q at z))

  pub still_fine : AllFine (kept_after h p)
  still_fine =
      by_cases (eqb (number_after h p) 0) (λ z. subst AllFine (sym (picked _ _ z)) (more (range p (accepted z)) fine)) (λ z. subst AllFine (sym (unpicked _ _ z)) fine)

-- ---- the empty month

pub empty_totals : Totals empty_month []
unfolding pad
empty_totals =
    let blank : List ℕ = replicate 9 0 in
    let line : (s : ℕ) → s < 2 → get_or (replicate 2 blank) s [] ≡ blank = λ s h. get_or-replicate 2 s blank [] h in
    record {
      added = refl;
      sums = record { filled = record { rows = refl; count = refl; room = omega arith }; free = refl; units = λ k h. get_or-replicate 17 k 0 0 h; types = refl; absent = refl };
      counts = record { lines = refl; columns = λ s h. ap length (line s h); counts = λ s b h k. ap (λ (l : List ℕ). get_or l b 0) (line s h) ∙ get_or-replicate 9 b 0 0 k };
    }

-- ---- all of it at once

pub whole : (m : Month) (h : List Posted) → Totals m h → m ≡ month_by h
whole m h t =
    let units : m.units ≡ table 17 (λ k. total (units_in k) h) =
    sym (rows_table m.units 0 (λ k. total (units_in k) h) (λ k l. sym (t.sums.units k (let z = t.sums.types in omega (arith, z, l))))) ∙ ap (λ (n : ℕ). table n (λ k. total (units_in k) h)) t.sums.types in
    let cells = cells_are m.grid.cells h t.counts in
    λ i. record {
      added = t.added i;
      count = t.sums.filled.count i;
      absent = t.sums.absent i;
      free = t.sums.free i;
      units = units i;
      rows = t.sums.filled.rows i;
      grid = record { cells = cells i };
    }
