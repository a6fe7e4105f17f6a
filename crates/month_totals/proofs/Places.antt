-- The table: each place counts those figures that belong there. Assumes nothing.
use Rattle.prelude.proofs.Prelude.{ℕ, ◌+◌, ◌^◌, ◌<◌, ◌≡◌, refl, sym, ◌∙◌, ap, ap₂, List, [], ◌∷◌, Bool, true, false, ◌&&◌, eqb, eqb-true, eqb-false, eq-eqb, arith, length, get_or}
use Rattle.prelude.proofs.{Prelude.{length-set, mod-eq_of_lt}, Ways.by_cases}
use lib.Seq.{get_or-set_same, get_or-set_other}
use Rattle.coding.proofs.{Basic.{and_left, and_right, unpicked}, Rows.rows_table}
use Rattle.coding.specs.Rows.{table}
use Rattle.phases.proofs.Choice.{by_number}
use Rattle.month_rows.specs.{Rows.plus, Places.line_raised, Places.raised_at, Places.service_line, Places.billing_column}
use Rattle.month_totals.specs.Totals.{Posted, which, in_place, line_by}
use Rattle.month_rules.proofs.Adding.{up_to_most}
use Rattle.month_totals.proofs.{Filled.fewer, Ranges.Fine}

pub counts_more : (t : Posted → Bool) (p : Posted) (h : List Posted) → length h < 4096 → t p ≡ true → plus 32 (length (which t h)) 1 ≡ length (which t (p ∷ h))
counts_more t p h few q =
    let fits : length (which t h) + 1 < 2 ^ 32 = omega (arith, fewer t h, few) in
    rw (q, mod-eq_of_lt fits) (omega arith)

pub line_small : (s : ℕ) → service_line s < 2
line_small s = by_cases (eqb s 2) (λ q. rw q (omega arith)) (λ q. rw q (omega arith))

pub column_small : (b k : ℕ) → billing_column b k < 9
column_small b k = by_cases (eqb b 0) (λ q. rw q (omega arith)) (λ q. rw q (let z = up_to_most 7 k in omega (arith, z)))

abbrev cell : List (List ℕ) → ℕ → ℕ → ℕ
cell cells s b = get_or (get_or cells s []) b 0

-- two lines of nine, and the line of D first
pub record Counts (cells : List (List ℕ)) (h : List Posted) : Type 0 where
  pub lines : length cells ≡ 2
  pub columns : (s : ℕ) → s < 2 → length (get_or cells s []) ≡ 9
  pub counts : (s b : ℕ) → s < 2 → b < 9 → cell cells s b ≡ length (which (in_place (s + 2) b) h)

module _ (cells : List (List ℕ)) (s b : ℕ) (two : length cells ≡ 2) (hs : s < 2) where
  here : get_or (raised_at cells s b) s [] ≡ line_raised (get_or cells s []) b
  here = get_or-set_same cells s (line_raised (get_or cells s []) b) [] (omega (arith, two, hs))

  there : (i : ℕ) → eqb s i ≡ false → get_or (raised_at cells s b) i [] ≡ get_or cells i []
  there i e = get_or-set_other cells s i (line_raised (get_or cells s []) b) [] (λ y. eqb-false s i e (sym y))

  raised_columns : (i : ℕ) → length (get_or cells s []) ≡ 9 → length (get_or cells i []) ≡ 9 → length (get_or (raised_at cells s b) i []) ≡ 9
  raised_columns i x y =
      by_number s i
      (λ e. ap (λ (n : ℕ). length (get_or (raised_at cells s b) n [])) (sym e) ∙ ap length here ∙ length-set (get_or cells s []) b (plus 32 (cell cells s b) 1) ∙ x)
      (λ e. ap length (there i e) ∙ y)

  raised_here : length (get_or cells s []) ≡ 9 → b < 9 → cell (raised_at cells s b) s b ≡ plus 32 (cell cells s b) 1
  raised_here nine hb = ap (λ (l : List ℕ). get_or l b 0) here ∙ get_or-set_same (get_or cells s []) b (plus 32 (cell cells s b) 1) 0 (omega (arith, nine, hb))

  raised_there : (i j : ℕ) → (eqb s i && eqb b j) ≡ false → cell (raised_at cells s b) i j ≡ cell cells i j
  raised_there i j q =
      by_number s i
      (λ e. let d : eqb b j ≡ false = sym (ap (λ (t : Bool). t && eqb b j) (eq-eqb s i e)) ∙ q in
      ap (λ (n : ℕ). cell (raised_at cells s b) n j) (sym e) ∙ ap (λ (l : List ℕ). get_or l j 0) here
      ∙ get_or-set_other (get_or cells s []) b j (plus 32 (cell cells s b) 1) 0 (λ y. eqb-false b j d (sym y)) ∙ ap (λ (n : ℕ). cell cells n j) e)
      (λ e. ap (λ (l : List ℕ). get_or l j 0) (there i e))

pub table_more : (cells : List (List ℕ)) (h : List Posted) (p : Posted) → Counts cells h → length h < 4096 → Fine p
    → Counts (raised_at cells (service_line p.service) (billing_column p.charge.figure.billed p.charge.figure.billing)) (p ∷ h)
table_more cells h p c few f =
    let s : ℕ = service_line p.service in let b : ℕ = billing_column p.charge.figure.billed p.charge.figure.billing in
    let hs : s < 2 = line_small p.service in let hb : b < 9 = column_small p.charge.figure.billed p.charge.figure.billing in
    let nine = c.columns s hs in
    let place : (i j : ℕ) → in_place (i + 2) j p ≡ (eqb s i && eqb b j) = λ i j. ap₂ (λ (x y : Bool). x && y) (f.line i) (ap (λ (k : ℕ). eqb k j) f.column) in
    record {
      lines = length-set cells s (line_raised (get_or cells s []) b) ∙ c.lines;
      columns = λ i k. raised_columns cells s b c.lines hs i nine (c.columns i k);
      counts = λ i j hi hj. by_cases (eqb s i && eqb b j)
          (λ q. let e = eqb_same s i b j q in
          ap₂ (cell (raised_at cells s b)) (sym e.0) (sym e.1) ∙ raised_here cells s b c.lines hs nine hb
          ∙ ap (λ (n : ℕ). plus 32 n 1) (ap₂ (cell cells) e.0 e.1 ∙ c.counts i j hi hj) ∙ counts_more (in_place (i + 2) j) p h few (place i j ∙ q))
          (λ q. raised_there cells s b c.lines hs i j q ∙ c.counts i j hi hj ∙ ap length (sym (unpicked (p ∷ which (in_place (i + 2) j) h) (which (in_place (i + 2) j) h) (place i j ∙ q))));
    }
  where
    eqb_same : (s i b j : ℕ) → (eqb s i && eqb b j) ≡ true → (s ≡ i) × (b ≡ j)
    eqb_same s i b j q = (eqb-true s i (and_left (eqb s i) (eqb b j) q), eqb-true b j (and_right (eqb s i) (eqb b j) q))

-- ---- the whole table

two_lines : (l : List (List ℕ)) → length l ≡ 2 → l ≡ get_or l 0 [] ∷ get_or l 1 [] ∷ []
two_lines [] e = absurd (omega (arith, e))
two_lines (x ∷ []) e = absurd (omega (arith, e))
two_lines (x ∷ y ∷ []) e = refl
two_lines (x ∷ y ∷ z ∷ l) e = absurd (omega (arith, e))

one_line : (l : List ℕ) (h : List Posted) (service : ℕ) → length l ≡ 9 → ((b : ℕ) → b < 9 → get_or l b 0 ≡ length (which (in_place service b) h)) → l ≡ line_by h service
one_line l h service e c =
    sym (rows_table l 0 (λ b. length (which (in_place service b) h)) (λ b k. sym (c b (omega (arith, k, e))))) ∙ ap (λ (n : ℕ). table n (λ b. length (which (in_place service b) h))) e

pub cells_are : (cells : List (List ℕ)) (h : List Posted) → Counts cells h → cells ≡ line_by h 2 ∷ line_by h 3 ∷ []
cells_are cells h c =
    two_lines cells c.lines
    ∙ ap₂ (λ (x y : List ℕ). x ∷ y ∷ []) (one_line (get_or cells 0 []) h 2 (c.columns 0 (omega arith)) (λ b k. c.counts 0 b (omega arith) k))
    (one_line (get_or cells 1 []) h 3 (c.columns 1 (omega arith)) (λ b k. c.counts 1 b (omega arith) k))
