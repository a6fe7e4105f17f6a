-- The table of counts by service and billing identification (document 02, request 9). Whatever the counts are.
use Rattle.std.specs.Prelude.{ℕ, cond, List, [], ◌==◌, slice_index, slice_index_or, slice_set}
use Rattle.same_final.specs.Same.{up_to}
use Rattle.month_rows.specs.declared.Grid.{Grid}
use Rattle.month_rows.specs.Rows.{plus}

-- a line with the count at b raised by one
abbrev pub line_raised : List ℕ → ℕ → List ℕ
line_raised line b = slice_set line b (plus 32 (slice_index line b) 1)

abbrev pub raised_at : List (List ℕ) → ℕ → ℕ → List (List ℕ)
raised_at t s b = slice_set t s (line_raised (slice_index_or t s []) b)

-- line 0 for D, 1 for E
abbrev pub service_line : ℕ → ℕ
service_line service = cond (service == 2) 0 1

-- the billing identification, or 8 for none; one over 7 goes to 7, and no figure in range has one
abbrev pub billing_column : ℕ → ℕ → ℕ
billing_column billed billing = cond (billed == 0) 8 (up_to 7 billing)

-- one figure more
abbrev pub placed : Grid → ℕ → ℕ → ℕ → Grid
placed g service billed billing = record { cells = raised_at g.cells (service_line service) (billing_column billed billing) }
