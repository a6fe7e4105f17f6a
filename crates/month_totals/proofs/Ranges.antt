-- What 01's ranges say of a figure: its bounds, and that every place that it goes to is there. Assumes nothing.
use Rattle.prelude.proofs.Prelude.{ℕ, ◌+◌, ◌*◌, ◌≤◌, ◌≡◌, refl, sym, ◌∙◌, ap, ap₂, List, [], ◌∷◌, Bool, true, false, not, ◌&&◌, ◌||◌, cond, eqb, leb, eqb-true, eqb-false, eq-eqb}
use Rattle.prelude.proofs.{Prelude.{ne_eqb, le-leb, leb-true, arith, length, suc-mul}, Ways.by_cases}
use Rattle.coding.{specs.Codec.all, proofs.Basic.and_left, proofs.Basic.and_right, proofs.Basic.picked, proofs.Basic.unpicked, proofs.Rows.table_length}
use Rattle.phases.proofs.Choice.{by_number, never}
use Rattle.types.specs.{declared.Units.Units, declared.Figure.Figure, declared.Charge.Charge, Entries.unit, Entries.unit_at, Entries.unit_list, Arguments.is_kind}
use Rattle.write_tests.{specs.inner.Fine.billing_fine, specs.inner.Fine.unbilled, specs.inner.Fine.priced_marks, specs.inner.Fine.bare_kind, specs.inner.Fine.marks_fine}
use Rattle.write_tests.{specs.inner.Fine.figure_fine, specs.inner.Fine.entries_fine, proofs.Valid.charge_fine_lem}
use Rattle.write_charges.proofs.{Charged.units_valid, Entry.unit_is}
use Rattle.amounts.proofs.Bounded.{bounded}
use Rattle.closing.{specs.Range.closing_service, specs.Range.operation_of, specs.Range.in_range, proofs.Small.operation_range, proofs.Small.small}
use Rattle.month_rows.specs.Places.{service_line, billing_column}
use Rattle.month_totals.specs.Totals.{Posted, total, amount_in, is_money_call, is_free_call, is_unit_call, entries_of, column_of}

pub record Fine (p : Posted) : Type 0 where
  pub amount : amount_in p ≤ 16777215000000
  pub line : (s : ℕ) → eqb p.service (s + 2) ≡ eqb (service_line p.service) s
  pub column : column_of p ≡ billing_column p.charge.figure.billed p.charge.figure.billing
  pub kind : is_money_call p ≡ false → is_free_call p ≡ false → is_unit_call p ≡ true
  pub count : is_unit_call p ≡ true → p.charge.figure.count ≤ 32
  pub valid : all unit.valid (entries_of p) ≡ true

pub data AllFine : List Posted → Type 0 where
  none : AllFine []
  more : {p : Posted} {h : List Posted} → Fine p → AllFine h → AllFine (p ∷ h)

-- ---- D or E

shift : (a b : ℕ) → eqb (a + 2) (b + 2) ≡ eqb a b
shift a b =
    by_number a b (λ e. eq-eqb (a + 2) (b + 2) (ap (λ (n : ℕ). n + 2) e) ∙ sym (eq-eqb a b e))
    (λ e. ne_eqb (a + 2) (b + 2) (λ z. eqb-false a b e (omega (arith, z))) ∙ sym e)

lines : (service : ℕ) → closing_service service ≡ true → (s : ℕ) → eqb service (s + 2) ≡ eqb (service_line service) s
lines service t s =
    by_number service 2
    (λ e. ap (λ (k : ℕ). eqb k (s + 2)) e ∙ shift 0 s ∙ sym (ap (λ (k : ℕ). eqb k s) (picked _ _ (eq-eqb service 2 e))))
    (λ n. let e = eqb-true service 3 (sym (ap (λ (b : Bool). b || eqb service 3) n) ∙ t) in
    ap (λ (k : ℕ). eqb k (s + 2)) e ∙ shift 1 s ∙ sym (ap (λ (k : ℕ). eqb k s) (unpicked _ _ n)))

-- ---- the billing identification is 0 to 7

module _ (f : Figure) where
  not_billed : unbilled f ≡ true → f.billing ≤ 7
  not_billed v = let z = eqb-true 0 f.billing (and_right (eqb 0 f.billed) _ v) in omega (arith, z)

  billed_small : (most : ℕ) → most ≤ 7 → billing_fine most f ≡ true → f.billing ≤ 7
  billed_small most l v =
      by_cases (eqb f.billed 1) (λ q. let z = leb-true f.billing most (sym (picked _ _ q) ∙ v) in omega (arith, z, l))
      (λ q. not_billed (sym (unpicked _ _ q) ∙ v))

  priced_small : (during ending o : ℕ) → priced_marks during ending o f ≡ true → f.billing ≤ 7
  priced_small during ending o v =
      by_cases (eqb o during)
      (λ q. billed_small 2 (omega arith) (and_right (leb f.total 1 && eqb 0 f.arrangement) _ (sym (picked _ _ q) ∙ v)))
      (λ q. let w = sym (unpicked _ _ q) ∙ v in
      by_cases (eqb o ending) (λ r. billed_small 7 (omega arith) (and_right (eqb 0 f.total && eqb 0 f.arrangement) _ (sym (picked _ _ r) ∙ w)))
      (λ r. never (sym (unpicked _ _ r) ∙ w)))

  marks_small : (o : ℕ) → marks_fine o f ≡ true → f.billing ≤ 7
  unfolding marks_fine
  marks_small o v =
      by_cases (eqb f.kind 2) (λ q. priced_small 33 35 o (sym (picked _ _ q) ∙ v))
      (λ q. let w = sym (unpicked _ _ q) ∙ v in
      by_cases (eqb f.kind 3) (λ r. priced_small 34 36 o (sym (picked _ _ r) ∙ w))
      (λ r. let x = sym (unpicked _ _ r) ∙ w in
      by_cases (eqb f.kind 5) (λ s. not_billed (and_right (eqb 0 f.total && (leb 1 f.arrangement && leb f.arrangement 10)) _ (and_right (eqb o 30 || eqb o 32) _ (sym (picked _ _ s) ∙ x))))
      (λ s. not_billed (and_right (eqb 0 f.total && eqb 0 f.arrangement) _ (and_right (bare_kind o f.kind) _ (sym (unpicked _ _ s) ∙ x))))))

-- ---- money, free or units, and no more than 32 entries

late : (service kind : ℕ) → 33 ≤ operation_of service kind
late service kind =
    by_cases (eqb service 2) (λ d. rw d (by_cases (eqb kind 3) (λ u. rw u (omega arith)) (λ u. rw u (omega arith))))
    (λ d. rw d (by_cases (eqb kind 3) (λ u. rw u (omega arith)) (λ u. rw u (omega arith))))

module _ (service : ℕ) (c : Charge) (v : in_range service c ≡ true) where
  abbrev o : ℕ
  o = operation_of service c.figure.kind

  of_service : closing_service service ≡ true
  unfolding in_range
  of_service = and_left (closing_service service) _ v

  fine : figure_fine o c.figure && entries_fine c ≡ true
  unfolding in_range
  fine = let r = operation_range service c.figure.kind in
      sym (charge_fine_lem o (omega arith) r.1 c) ∙ and_right (not (is_kind 0 c)) _ (and_right (closing_service service) _ v)

  some_kind : c.figure.kind ≡ 0 → ⊥
  unfolding in_range
  some_kind e = never (sym (ap not (eq-eqb c.figure.kind 0 e)) ∙ and_left (not (is_kind 0 c)) _ (and_right (closing_service service) _ v))

  marks : marks_fine o c.figure ≡ true
  unfolding figure_fine
  marks = and_left (marks_fine o c.figure) _ (and_left (figure_fine o c.figure) _ fine)

  only_units : eqb c.figure.kind 2 ≡ false → eqb c.figure.kind 1 ≡ false → eqb c.figure.kind 3 ≡ true
  unfolding marks_fine bare_kind
  only_units n2 n1 =
      let l = late service c.figure.kind in
      by_cases (eqb c.figure.kind 3) (λ e. e)
      (λ n3. let w = sym (unpicked _ _ n2 ∙ unpicked _ _ n3) ∙ marks in
      by_cases (eqb c.figure.kind 5)
      (λ e. never (sym (ap₂ (λ (x y : Bool). x || y) (ne_eqb o 30 (λ y. omega (arith, y, l))) (ne_eqb o 32 (λ y. omega (arith, y, l))))
      ∙ and_left (eqb o 30 || eqb o 32) _ (sym (picked _ _ e) ∙ w)))
      (λ n5. let z = and_left (bare_kind o c.figure.kind) _ (sym (unpicked _ _ n5) ∙ w) in
      let y = sym (unpicked _ _ (ne_eqb c.figure.kind 0 some_kind) ∙ unpicked _ _ n1) ∙ z in
      by_cases (eqb c.figure.kind 4) (λ e. let x = leb-true o 31 (sym (picked _ _ e) ∙ y) in absurd (omega (arith, x, l)))
      (λ e. never (sym (unpicked _ _ e) ∙ y))))

  entries_valid : eqb c.figure.kind 3 ≡ true → (c.figure.count ≤ 32) × (all unit.valid (unit_list c.entries c.figure.count) ≡ true)
  unfolding entries_fine
  entries_valid e = units_valid c.entries c.figure.count (sym (picked _ _ e) ∙ and_right (figure_fine o c.figure) _ fine)

pub range : (p : Posted) → in_range p.service p.charge ≡ true → Fine p
range p v = record {
  amount = bounded p.charge.figure.money.number p.charge.figure.money.multiplier (small p.service p.charge v);
  line = lines p.service (of_service p.service p.charge v);
  column =
      let b : p.charge.figure.billing ≤ 7 = marks_small p.charge.figure _ (marks p.service p.charge v) in
      ap (λ (k : ℕ). cond (eqb p.charge.figure.billed 0) 8 k) (sym (picked _ _ (le-leb p.charge.figure.billing 7 b)));
  kind = only_units p.service p.charge v;
  count = λ e. (entries_valid p.service p.charge v e).0;
  valid = by_cases (is_unit_call p) (λ e. rw e (entries_valid p.service p.charge v e).1) (λ e. rw e refl);
}

-- a figure of one kind is of no other
pub kind_not : (c : Charge) (i j : ℕ) → (i ≡ j → ⊥) → is_kind i c ≡ true → is_kind j c ≡ false
kind_not c i j d q = ne_eqb c.figure.kind j (λ e. d (sym (eqb-true c.figure.kind i q) ∙ e))

-- ---- entries that are valid

pub unit_type : (u : Units) → unit.valid u ≡ true → u.kind ≤ 16
unit_type u v = leb-true u.kind 16 (and_left (leb u.kind 16) _ (sym (unit_is u) ∙ v))

unit_small : (u : Units) → unit.valid u ≡ true → u.number ≤ 16777215
unit_small u v =
    let w = and_right (leb u.kind 16) _ (sym (unit_is u) ∙ v) in
    by_cases (eqb u.known 1)
    (λ q. leb-true u.number 16777215 (sym (picked _ _ q) ∙ w))
    (λ q. let z = eqb-true u.number 0 (and_right (eqb u.known 0) _ (sym (unpicked _ _ q) ∙ w)) in omega (arith, z))

abbrev pub number : Units → ℕ
number u = u.number

valid_small : (l : List Units) → all unit.valid l ≡ true → total number l ≤ length l * 16777215
valid_small [] v = omega arith
valid_small (u ∷ l) v =
    let z = valid_small l (and_right (unit.valid u) _ v) in let y = suc-mul (length l) 16777215 in
    let x = unit_small u (and_left (unit.valid u) _ v) in omega (arith, z, y, x)

module _ (p : Posted) (f : Fine p) where
  pub few_entries : length (entries_of p) ≤ 32
  few_entries =
      by_cases (is_unit_call p)
      (λ e. rw e (let z = f.count e in let y = table_length p.charge.figure.count (unit_at p.charge.entries) in omega (arith, z, y)))
      (λ e. rw e (omega arith))

  pub entries_small : total number (entries_of p) ≤ 536870880
  entries_small = let z = valid_small (entries_of p) f.valid in omega (arith, z, few_entries)
